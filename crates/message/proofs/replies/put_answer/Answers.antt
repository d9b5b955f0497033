use Rattle.message.proofs.Reply.{answer_written}
use Rattle.message.proofs.replies.put_answer.Goals as goal

pub returns : goal.returns
returns c =
    answer_written c.args.part.now c.args.rtype c.args.rdata.now c.requires.room
    c.put_octets.ensures c.put_big.ensures c.put_big-2.ensures c.put_big-3.ensures c.put_big-4.ensures
    c.put_big-5.ensures c.put_octets-2.ensures
