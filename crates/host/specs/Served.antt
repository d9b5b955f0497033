-- When set-up is ready, when a start and a tick are refused, and when they send, share, settle or stay quiet: plain conditions. What each
-- gives is shown in proofs/Started.antt and proofs/Ticked.antt.
use Rattle.std.specs.Prelude.{ℕ, ◌<◌, ◌≤◌, ◌≡◌, ◌≢◌, ◌⊎◌, List, false, length, get_or}
use Rattle.octets.specs.Bounds.{interfaces, ipv4, ipv6}
use Rattle.octets.specs.Addresses.{is_group, address_of, unused}
use Rattle.octets.specs.declared.Setting.{Setting}
use Rattle.refusal.specs.Numbers.{Report, number, number_at}
use Rattle.name_table.specs.Check.{Held, good, bad, no_name, check_table}
use Rattle.host.specs.Bounds.{sends_in_all, short, long, room as room_octets, latest as latest_time}
use Rattle.host.specs.State.{state_of, HasStopped}
use Rattle.host.specs.ExactlyWhen.{IsUsed, CalledWell}
use Rattle.host.specs.declared.Timer.{Timer}
use Rattle.host.specs.declared.NameState.{NameState}
use Rattle.host.specs.declared.NameState.TheVariants.{Off, Verifying, Unique, Defending, Stopped, Shared}
use Rattle.host.specs.declared.Host.{Host}

-- ---- Set-up.

-- a used interface's settings are good: its address is no group address, and its interval one of the two
pub record SettingIsGood (s : Setting) : Type 0 where
  pub not_group : is_group (address_of s) ≡ false
  pub interval : (s.interval ≡ short) ⊎ (s.interval ≡ long)

pub record ReadyWhen (table : List ℕ) (settings : List Setting) (time : ℕ) : Type 0 where
  pub names : List Held
  pub good_table : check_table table ≡ good names
  pub latest : time ≤ latest_time
  pub settings_good : (i : ℕ) → i < interfaces → ((get_or settings i unused).family ≡ ipv4) ⊎ ((get_or settings i unused).family ≡ ipv6)
      → SettingIsGood (get_or settings i unused)

-- ---- Refusals 1 to 4 of every call after set-up, with the numbers of rules N: each where those before it do not hold.
pub data RefusedFirst (h : Host) (table : List ℕ) (i time : ℕ) (out : List ℕ) : Report → Type 0 where
  first_room : length out < room_octets → RefusedFirst h table i time out (number 1)
  first_table : (at : ℕ) → room_octets ≤ length out → check_table table ≡ bad at → RefusedFirst h table i time out (number_at 2 at)
  first_interface : (names : List Held) → room_octets ≤ length out → check_table table ≡ good names
      → (interfaces ≤ i) ⊎ (IsUsed h i → ⊥) → RefusedFirst h table i time out (number 3)
  first_clock : (names : List Held) → room_octets ≤ length out → check_table table ≡ good names → i < interfaces → IsUsed h i
      → (latest_time < time) ⊎ (time < h.clock) → RefusedFirst h table i time out (number 4)

-- ---- A start of the k-th name.

-- 12: there is no such name; 19: it is neither Off nor Stopped; 21: it has stopped, and may not be tried again yet.
pub record NoSuchNameWhen (h : Host) (table : List ℕ) (i k time : ℕ) (out : List ℕ) : Type 0 where
  pub names : List Held
  pub called : CalledWell h table i time out names
  pub past : length names ≤ k

pub record BusyWhen (h : Host) (table : List ℕ) (i k time : ℕ) (out : List ℕ) : Type 0 where
  pub names : List Held
  pub called : CalledWell h table i time out names
  pub in_table : k < length names
  pub not_off : state_of h i k ≢ Off
  pub not_stopped : HasStopped (state_of h i k) → ⊥

pub record TooSoonWhen (h : Host) (table : List ℕ) (i k time : ℕ) (out : List ℕ) : Type 0 where
  pub names : List Held
  pub called : CalledWell h table i time out names
  pub in_table : k < length names
  pub until : ℕ
  pub stopped : state_of h i k ≡ Stopped until
  pub before : time < until

-- A name in this state may be started at a time: it is Off, or has stopped until then at the latest.
abbrev pub MayStart : NameState → ℕ → Type 0
MayStart state time = (state ≡ Off) ⊎ ((until : ℕ) × (state ≡ Stopped until) × (until ≤ time))

-- It is taken: the kind of the name, 1 unique or 2 shared, then decides.
pub record StartsWhen (h : Host) (table : List ℕ) (i k time : ℕ) (out : List ℕ) (kind : ℕ) : Type 0 where
  pub names : List Held
  pub called : CalledWell h table i time out names
  pub in_table : k < length names
  pub may_start : MayStart (state_of h i k) time
  pub kind_is : (get_or names k no_name).kind ≡ kind

-- ---- A tick.

-- A name's timer has run out.
abbrev pub DueBy : NameState → ℕ → Type 0
DueBy (Verifying sends own timer) time = timer.due ≤ time
DueBy (Defending own own_type own_class timer) time = timer.due ≤ time
DueBy Off time = ⊥
DueBy Unique time = ⊥
DueBy (Stopped until) time = ⊥
DueBy Shared time = ⊥

-- It serves the k-th name of the table: that one is due, and none before it.
pub record ServesWhen (h : Host) (table : List ℕ) (i time : ℕ) (out : List ℕ) (k : ℕ) : Type 0 where
  pub names : List Held
  pub called : CalledWell h table i time out names
  pub in_table : k < length names
  pub due : DueBy (state_of h i k) time
  pub first : (j : ℕ) → j < k → DueBy (state_of h i j) time → ⊥

-- The check of a name has sent all that it sends: three queries while Verifying, one while Defending.
abbrev pub HasAsked : NameState → Type 0
HasAsked (Verifying sends own timer) = sends_in_all ≤ sends
HasAsked (Defending own own_type own_class timer) = Unit
HasAsked Off = ⊥
HasAsked Unique = ⊥
HasAsked (Stopped until) = ⊥
HasAsked Shared = ⊥

pub record BecomesUniqueWhen (h : Host) (table : List ℕ) (i time : ℕ) (out : List ℕ) (k : ℕ) : Type 0 where
  pub serves : ServesWhen h table i time out k
  pub has_asked : HasAsked (state_of h i k)

pub record AsksAgainWhen (h : Host) (table : List ℕ) (i time : ℕ) (out : List ℕ) (k sends id : ℕ) (timer : Timer) : Type 0 where
  pub serves : ServesWhen h table i time out k
  pub verifying : state_of h i k ≡ Verifying sends id timer
  pub few : sends < sends_in_all

-- No name of the table is due.
pub record QuietWhen (h : Host) (table : List ℕ) (i time : ℕ) (out : List ℕ) : Type 0 where
  pub names : List Held
  pub called : CalledWell h table i time out names
  pub none : (j : ℕ) → j < length names → DueBy (state_of h i j) time → ⊥
