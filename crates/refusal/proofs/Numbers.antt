-- What a refusal tells determines it.
use Rattle.std.proofs.Common.{◌≡◌, refl, sym, ap, ◌∙◌, List, [], ◌∷◌, get_or}
use Rattle.refusal.specs.declared.Refusal.{Refusal}
use Rattle.refusal.specs.declared.Refusal.TheVariants.{Room, Table, Interface, Clock, Length, Address, Opcode, Rcode, Counts, Question, Class, NotOurs, Stopped, Notification, Unmatched, Own, Tentative, Records, Busy, Settings, TooSoon, SeveralLabels}
use Rattle.refusal.specs.Numbers.{Report, number, number_at, report_of}

-- the refusals by their numbers; number 2 tells an offset too, and 0 is none
abbrev pub by_number : List Refusal
by_number =
    Room ∷ Room ∷ Table 0 ∷ Interface ∷ Clock ∷ Length ∷ Address ∷ Opcode ∷ Rcode ∷ Counts ∷ Question ∷ Class ∷ NotOurs
    ∷ Stopped ∷ Notification ∷ Unmatched ∷ Own ∷ Tentative ∷ Records ∷ Busy ∷ Settings ∷ TooSoon ∷ SeveralLabels ∷ []

abbrev pub refusal_of : Report → Refusal
refusal_of (number n) = get_or by_number n Room
refusal_of (number_at n at) = Table at

pub refusal_back : (r : Refusal) → refusal_of (report_of r) ≡ r
refusal_back Room = refl
refusal_back (Table at) = refl
refusal_back Interface = refl
refusal_back Clock = refl
refusal_back Length = refl
refusal_back Address = refl
refusal_back Opcode = refl
refusal_back Rcode = refl
refusal_back Counts = refl
refusal_back Question = refl
refusal_back Class = refl
refusal_back NotOurs = refl
refusal_back Stopped = refl
refusal_back Notification = refl
refusal_back Unmatched = refl
refusal_back Own = refl
refusal_back Tentative = refl
refusal_back Records = refl
refusal_back Busy = refl
refusal_back Settings = refl
refusal_back TooSoon = refl
refusal_back SeveralLabels = refl

pub report_one : (a b : Refusal) → report_of a ≡ report_of b → a ≡ b
report_one a b e = sym (refusal_back a) ∙ ap refusal_of e ∙ refusal_back b
