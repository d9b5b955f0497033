use Rattle.std.proofs.Common.{arith}
use Rattle.names.proofs.Expansion.{copied_longer, copied_nearer, copied_inside, copied_more, copied_end, copied_wrong}
use Rattle.names.proofs.copy_labels.Goals as goal

pub overflow_sub-v : goal.overflow_sub-v
overflow_sub-v c = copied_longer c.loop-v.invariant c.next_turn.ensures c.in-More.is

pub overflow_add-w : goal.overflow_add-w
overflow_add-w c = omega (arith, copied_inside c.loop-v.invariant c.next_turn.ensures c.in-More.is)

pub loop-v-smaller : goal.loop-v-smaller
loop-v-smaller c = copied_nearer c.loop-v.invariant c.next_turn.ensures c.in-More.is

pub loop-v-preserved : goal.loop-v-preserved
loop-v-preserved c =
    copied_more c.loop-v.invariant c.next_turn.ensures c.in-More.is c.part-label.ensures c.put_octets.ensures

pub returns-in-End : goal.returns-in-End
returns-in-End c = copied_end c.loop-v.invariant c.next_turn.ensures c.in-End.is c.put_octets-in-End.ensures

pub returns-in-Wrong : goal.returns-in-Wrong
returns-in-Wrong c = copied_wrong c.loop-v.invariant c.next_turn.ensures c.in-Wrong.is
