use Rattle.names.proofs.SideBySide.{compared_first, compared_second, compared_apart, compared_labels}
use Rattle.names.proofs.same_record_name.Goals as goal

pub loop-v-preserved-then-v-a : goal.loop-v-preserved-then-v-a
loop-v-preserved-then-v-a c = compared_first c.loop-v.invariant c.next_turn-x.ensures c.in-More.is c.if-v-a.true

pub returns-in_default-next_turn : goal.returns-in_default-next_turn
returns-in_default-next_turn c = search compared_apart

pub loop-v-preserved-then-u-b : goal.loop-v-preserved-then-u-b
loop-v-preserved-then-u-b c = compared_second c.loop-v.invariant c.next_turn.ensures c.in-More-next_turn.is c.if-u-b.true

pub loop-v-preserved : goal.loop-v-preserved
loop-v-preserved c = search compared_labels
