use Rattle.message.specs.Reply.{answers_in}
use Rattle.message.proofs.Reply.{reply_short, reply_no_room, reply_written_lem}
use Rattle.message.proofs.replies.write_reply.Goals as goal
use Rattle.message.proofs.replies.write_reply.Goals.{then-out-room-via-then-out-room, then-out-room-via-else-out-room+then-room-used}

pub returns-then-out-room : goal.returns-then-out-room
returns-then-out-room c =
    let a = answers_in c.args.asked.interface c.args.asked.table.now c.args.asked.records in
    elim c.then-out-room.branch [
      | then-out-room-via-then-out-room w ↦ reply_short _ c.args.limit c.args.head c.args.question.now c.args.asked.qtype a w.if-out-room.true
      | then-out-room-via-else-out-room+then-room-used w ↦ reply_no_room _ c.args.limit c.args.head c.args.question.now c.args.asked.qtype a w.if-out-room.false w.if-room-used.true
    ]

pub returns : goal.returns
returns c =
    reply_written_lem c.args.out.now c.args.limit c.args.head c.args.question.now c.args.asked.qtype
    (answers_in c.args.asked.interface c.args.asked.table.now c.args.asked.records) c.if-out-room.false c.if-room-used.false
    c.put_answers-answers.result c.reply_flags-flags.result c.put_octets.ensures c.put_answers-answers.ensures c.reply_flags-flags.ensures
    c.put_big.ensures c.put_octets-2.ensures c.put_octets-3.ensures c.put_big-2.ensures c.put_octets-4.ensures
