-- A lookup that hears nothing and is ticked when due ends with no such name after three intervals.
use Rattle.std.proofs.Common.{ℕ, ◌+◌, ◌<◌, ◌≤◌, ◌≡◌, refl, sym, ap, ◌∙◌, subst, List, ◌++◌, Bool, arith, length, get_or, take, drop, replicate, length-append, length-drop, take_at}
use Rattle.octets.specs.Octets.{Octets}
use Rattle.octets.specs.Addresses.{unused}
use Rattle.octets.specs.declared.Setting.{Setting}
use Rattle.host.specs.State.{IsInterval, due_at}
use Rattle.host.specs.ThreeQueries.{Given}
use Rattle.lookup.specs.State.{with_phase}
use Rattle.lookup.specs.Outcomes.{Done, silent, no_such_name}
use Rattle.lookup.specs.ExactlyWhen.{lookup_query, begun, StartsWhen, Asks}
use Rattle.lookup.specs.GivesUp.{ticked, begins, run_of, TickedWhenDue, GivesUp}
use Rattle.lookup.specs.declared.Phase.TheVariants.{Asking, Ended}
use Rattle.lookup.specs.declared.Lookup.{Lookup}
use Rattle.lookup.proofs.Started.{start_asks}
use Rattle.lookup.proofs.Ticked.{repeats_is, gives_up_is}

module _ (settings : List Setting) (i : ℕ) (name : List ℕ) (qtype n : ℕ) (permission : Bool) (s x y z : Given) (o : Octets name) (v : IsInterval (get_or settings i unused) n)
    (w : StartsWhen settings i name permission s.time s.out) (t : TickedWhenDue n s x y z) where
  -- the lookup after so many sends, the last of them at a time
  abbrev after : ℕ → ℕ → Lookup
  after sends time = with_phase (begun settings i name qtype s.time s.id n) (Asking sends (due_at (time + n))) time

  abbrev asked : List ℕ
  asked = lookup_query s.id name qtype

  short : length name ≤ 255
  short = omega (arith, ap length w.name_is.octets_are, w.name_is.is_name.short)

  -- the array that holds the name
  abbrev zeros : List ℕ
  zeros = replicate 255 0

  array_full : length (name ++ drop (length name) zeros) ≤ 255
  array_full = omega (arith, short, length-append name (drop (length name) zeros), length-drop (length name) zeros)

  kept : take (length name) (name ++ drop (length name) zeros) ≡ name
  kept = take_at name _ (length name) refl

  -- a tick that comes an interval after the last of so many sends
  again_is : (sends time : ℕ) (g : Given) → sends < 3 → g.time ≡ time + n → g.time ≤ 281474976710655 → 512 ≤ length g.out
      → Asks (after (sends + 1) g.time) asked g.out (ticked (after sends time) g)
  again_is sends time g few due latest room =
      subst (λ (m : List ℕ). Asks (after (sends + 1) g.time) (lookup_query s.id m qtype) g.out (ticked (after sends time) g)) kept
      (repeats_is (after sends time) g.time g.id g.out sends n array_full
      (record {
        ticks = record { room = room; latest = latest; in_order = omega arith };
        used = w.used;
        timer = due_at (time + n);
        phase = refl;
        due = omega arith;
        few = few;
      })
      v)

  none_is : (time : ℕ) (g : Given) → g.time ≡ time + n → g.time ≤ 281474976710655 → 512 ≤ length g.out
      → ticked (after 3 time) g ≡ silent (with_phase (after 3 time) Ended g.time) g.out no_such_name
  none_is time g due latest room =
      gives_up_is (after 3 time) g.time g.id g.out
      (record {
        ticks = record { room = room; latest = latest; in_order = omega arith };
        used = w.used;
        sends = 3;
        timer = due_at (time + n);
        phase = refl;
        due = omega arith;
        all_sent = omega arith;
      })

  begins_is : Asks (after 1 s.time) asked s.out (begins settings i name qtype permission s)
  begins_is = start_asks settings i name qtype permission s.time s.id s.out o w n v

  first_is : Asks (after 2 x.time) asked x.out (ticked (begins settings i name qtype permission s).lookup x)
  first_is =
      subst (λ (l : Lookup). Asks (after 2 x.time) asked x.out (ticked l x)) (sym begins_is.lookup)
      (again_is 1 s.time x (omega arith) t.first (omega (arith, t.first, t.third, t.latest)) t.first_room)

  second_is : Asks (after 3 y.time) asked y.out (ticked (ticked (begins settings i name qtype permission s).lookup x).lookup y)
  second_is =
      subst (λ (l : Lookup). Asks (after 3 y.time) asked y.out (ticked l y)) (sym first_is.lookup)
      (again_is 2 x.time y (omega arith) (omega (arith, t.first, t.second)) (omega (arith, t.second, t.third, t.latest)) t.second_room)

  third_is : ticked (ticked (ticked (begins settings i name qtype permission s).lookup x).lookup y).lookup z
      ≡ silent (with_phase (after 3 y.time) Ended z.time) z.out no_such_name
  third_is =
      ap (λ (l : Lookup). ticked l z) second_is.lookup
      ∙ none_is y.time z (omega (arith, t.second, t.third)) t.latest t.third_room

  -- what an asking call leaves at the front of its buffer
  at_front : {l : Lookup} {out : List ℕ} {d : Done} → Asks l asked out d → take (length asked) d.octets ≡ asked
  at_front a = ap (take (length asked)) a.octets ∙ take_at asked _ (length asked) refl

  -- A start that is taken, and ticks one, two and three intervals after it.
  pub gives_up_after_three : GivesUp s.id name qtype (length asked) (run_of settings i name qtype permission s x y z)
  gives_up_after_three =
      record {
        asks = begins_is.result;
        sent = at_front begins_is;
        again = first_is.result;
        same_octets = at_front first_is;
        third_time = second_is.result;
        same_again = at_front second_is;
        then_none = ap (λ (d : Done). d.result) third_is;
        ended = ap (λ (d : Done). d.lookup.phase) third_is;
      }
