-- One of four settings is bad, in either order.
use Rattle.std.specs.List.{list_any}
use Rattle.std.proofs.Common.{rules, ◌≡◌, Bool, false, ◌||◌, List, [], ◌∷◌, length, arith}
use Rattle.octets.specs.Bounds.{interfaces}
use Rattle.octets.specs.Tests.{◌or◌}
use Rattle.octets.specs.declared.Setting.{Setting}
use Rattle.host.specs.SetUp.{bad_setting, bad_among}

-- four tests in the one order and in the other
turned : (a b c d : Bool) → (a || (b || (c || (d || false)))) ≡ (d or (c or (b or (a or false))))
turned a b c d = search rules

pub any_of_four : (settings : List Setting) → length settings ≡ interfaces → list_any bad_setting settings ≡ bad_among interfaces settings
unfolding bad_among
any_of_four [] l = absurd (omega arith)
any_of_four (a ∷ []) l = absurd (omega arith)
any_of_four (a ∷ b ∷ []) l = absurd (omega arith)
any_of_four (a ∷ b ∷ c ∷ []) l = absurd (omega arith)
any_of_four (a ∷ b ∷ c ∷ d ∷ []) l = turned (bad_setting a) (bad_setting b) (bad_setting c) (bad_setting d)
any_of_four (a ∷ b ∷ c ∷ d ∷ e ∷ es) l = absurd (omega arith)
