-- Tests of the definitions, as the plain conditions of specs/Refusals.antt and specs/ExactlyWhen.antt.
use Rattle.names.specs.declared.Name.{Name}
use Rattle.std.proofs.Common.{None, Option, Some, Result, Ok, Err, ℕ, ◌<◌, ◌≤◌, ◌≡◌, refl, sym, ap, ◌∙◌, subst, ◌↔◌, ◌⊎◌, List, [], ◌∷◌, Bool, true, false, not, arith, length, take, length-append, eqb, eq-eqb, ne_eqb}
use Rattle.std.proofs.Math.Seq.{take-length}
use mathlib.Core.Logic.Iff
use Rattle.octets.specs.Octets.{Octets}
use Rattle.octets.specs.declared.Setting.{Setting}
use Rattle.octets.proofs.Tests.{never, both, either_is, same_number, below_number, upto_number, either_number, neither_number, not_not, not_below, not_upto, neither}
use Rattle.names.specs.Names.{Labels, encode}
use Rattle.names.specs.NameWalk.{labels_of, name_at}
use Rattle.names.proofs.Names.{encode_some, reads_a_name, reads_alone}
use Rattle.names.proofs.Folding.{same_name_is}
use Rattle.message.specs.declared.Question.{Question}
use Rattle.message.specs.Records.{walk_from}
use Rattle.message.proofs.Records.{stops}
use Rattle.host.specs.Early.{no_interface, bad_clock}
use Rattle.lookup.specs.SeveralLabels.{several_labels}
use Rattle.lookup.specs.Start.{bad_name}
use Rattle.lookup.specs.Receive.{Arrival, header, waits, awaits, is_stopped}
use Rattle.lookup.specs.Refusals.{IsUnused, IsToLookUp, IsReverse, HasSeveral, Waits, IsAwaited, IsCutShort}
use Rattle.lookup.specs.ExactlyWhen.{IsUsed}
use Rattle.lookup.specs.declared.Phase.{Phase}
use Rattle.lookup.specs.declared.Phase.TheVariants.{Asking, Collecting, Ended}
use Rattle.lookup.specs.declared.Lookup.{Lookup}
use Rattle.lookup.proofs.SeveralLabels.{several_is, may_ask_is}

-- ---- the interface and the clock

pub unused_is : (i : ℕ) (s : Setting) → (no_interface i s.family ≡ true) ↔ IsUnused i s
unused_is i s = either_is _ _ (Iff.trans (upto_number 4 i) (λ l. omega arith, λ l. omega arith)) (neither_number s.family 4 6)

pub used_is : (i : ℕ) (s : Setting) → (no_interface i s.family ≡ false) ↔ IsUsed i s
used_is i s = (
  λ e.
      let n = (neither _ _).0 e in
      record { number = (not_upto 4 i).0 n.0; family = (either_number _ 4 6).0 ((not_not _).0 n.1) },
  λ u. (neither _ _).1 ((not_upto 4 i).1 u.number, (not_not _).1 ((either_number s.family 4 6).1 u.family)),
)

pub clock_is : (clock time : ℕ) → (bad_clock clock time ≡ true) ↔ ((281474976710655 < time) ⊎ (time < clock))
clock_is clock time = either_is _ _ (below_number _ _) (below_number _ _)

pub clock_good : (clock time : ℕ) → (bad_clock clock time ≡ false) ↔ ((time ≤ 281474976710655) × (clock ≤ time))
clock_good clock time = (
  λ e. let n = (neither _ _).0 e in ((not_below 281474976710655 time).0 n.0, (not_below time clock).0 n.1),
  λ u. (neither _ _).1 ((not_below 281474976710655 time).1 u.0, (not_below time clock).1 u.1),
)

-- ---- the name of a start

-- the octets of a name are one label after another, so only the root has one octet
root_alone : (n : Labels) → length (encode n) ≡ 1 → n ≡ []
root_alone [] e = refl
root_alone (l ∷ n) e = absurd (omega (arith, encode_some n, length-append l (encode n)))

-- a name to be looked up is read whole
read_is : (octets : List ℕ) (w : IsToLookUp octets) → name_at octets 0 ≡ Some (record { len = length octets; labels = length w.name })
read_is octets w =
    subst (λ (x : List ℕ). name_at x 0 ≡ Some (record { len = length x; labels = length w.name })) (sym w.octets_are)
    (reads_alone w.name w.is_name)

pub name_is : (octets : List ℕ) → Octets octets → (bad_name octets (name_at octets 0) ≡ false) ↔ IsToLookUp octets
name_is octets o = (λ b. to (name_at octets 0) refl b, from)
  where
    to : (r : Option Name) → name_at octets 0 ≡ r → bad_name octets r ≡ false → IsToLookUp octets
    to (Some n) e b =
        let f = (neither _ _).0 b in
        let m : n.len ≡ length octets = (same_number _ _).0 ((not_not _).0 f.1) in
        let r = ((reads_a_name octets 0 n o).0 e).name_at in
        let x : octets ≡ encode r.name = sym (take-length octets) ∙ ap (λ (k : ℕ). take k octets) (sym m ∙ r.len_is) ∙ r.octets in
        record {
          name = r.name;
          is_name = r.is_name;
          not_root = λ z. never (eq-eqb _ _ (r.len_is ∙ ap (λ (y : Labels). length (encode y)) z)) f.0;
          octets_are = x;
        }
    to None e b = never refl b

    from : IsToLookUp octets → bad_name octets (name_at octets 0) ≡ false
    from w =
        let n : Labels = w.name in
        let d : eqb (length octets) 1 ≡ false = ne_eqb _ _ (λ x. w.not_root (root_alone n (sym (ap length w.octets_are) ∙ x))) in
        let f : not (eqb (length octets) (length octets)) ≡ false = (not_not _).1 (eq-eqb (length octets) (length octets) refl) in
        rw (read_is octets w) ((neither _ _).1 (d, f))

-- what is said of its labels, of a name to be looked up
module _ (permission : Bool) (octets : List ℕ) (w : IsToLookUp octets) where
  several_here : several_labels permission octets (labels_of (name_at octets 0)) ≡ several_labels permission (encode w.name) (length w.name)
  several_here =
      ap (λ (r : Option Name). several_labels permission octets (labels_of r)) (read_is octets w)
      ∙ ap (λ (x : List ℕ). several_labels permission x (length w.name)) w.octets_are

  pub name_several : (several_labels permission octets (labels_of (name_at octets 0)) ≡ true) ↔ HasSeveral permission w.name
  name_several = rw several_here (several_is w.name w.is_name.labels permission)

  pub name_permitted : (several_labels permission octets (labels_of (name_at octets 0)) ≡ false)
      ↔ ((length w.name < 2) ⊎ (permission ≡ true) ⊎ IsReverse w.name)
  name_permitted = rw several_here (may_ask_is w.name w.is_name.labels permission)

-- ---- the response that is awaited

waits_is : (p : Phase) (c : Bool) → (waits p c ≡ true) ↔ Waits p c
waits_is (Asking sends timer) c = (λ e. tt, λ e. refl)
waits_is (Collecting timer) c = (λ e. e, λ e. e)
waits_is Ended c = (λ e. never e refl, λ e. absurd e)

pub awaited_is : (l : Lookup) (a : Arrival) (q : Question) → (awaits l (header a) q a.datagram ≡ true) ↔ IsAwaited l a q
awaited_is l a q = (
  λ e.
      let w = (both _ _).0 e in
      let i = (both _ _).0 w.1 in
      let t = (both _ _).0 i.1 in
      let c = (both _ _).0 t.1 in
      record {
        waits = (waits_is l.phase (header a).conflict).0 w.0;
        id = (same_number _ _).0 i.0;
        qtype = (same_number _ _).0 t.0;
        class = (same_number _ 1).0 c.0;
        name = (same_name_is _ _).0 c.1;
      },
  λ w.
      (both _ _).1 (
        (waits_is l.phase (header a).conflict).1 w.waits,
        (both _ _).1 (
          (same_number _ _).1 w.id,
          (both _ _).1 ((same_number _ _).1 w.qtype, (both _ _).1 ((same_number _ 1).1 w.class, (same_name_is _ _).1 w.name)),
        ),
      ),
)

-- ---- its answers

pub cut_is : (a : Arrival) (q : Question) → Octets a.datagram
    → (is_stopped (walk_from (header a).answers a.datagram q.end) ≡ true) ↔ IsCutShort a q
cut_is a q o = (λ e. to (walk_from (header a).answers a.datagram q.end) refl e, λ w. ap is_stopped ((stops _ _ _ _ o).1 w.1))
  where
    to : (w : Result ℕ ℕ) → walk_from (header a).answers a.datagram q.end ≡ w → is_stopped w ≡ true → IsCutShort a q
    to (Ok at) e s = never s refl
    to (Err at) e s = (at, (stops _ _ _ _ o).0 e)
