-- Two tests in a sentence: the second is looked at only where the first leaves it open.
use Rattle.std.specs.Prelude.{Bool, true, false, cond}

infixr 6 ◌and◌
infixr 5 ◌or◌
abbrev pub ◌and◌ : Bool → Bool → Bool
p and q = cond p q false

abbrev pub ◌or◌ : Bool → Bool → Bool
p or q = cond p true q
