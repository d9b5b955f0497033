-- A start and the three ticks that serve its name: three queries with the same octets, then Unique.
use Rattle.std.proofs.Common.{ℕ, ◌+◌, ◌<◌, ◌≤◌, ◌≡◌, refl, sym, ap, ◌∙◌, subst, ◌⊎◌, List, arith, length, set, take, length-set, length-append}
use Rattle.octets.specs.Bounds.{ipv4, ipv6}
use Rattle.octets.specs.Octets.{Octets, put}
use Rattle.octets.specs.declared.Setting.{Setting}
use Rattle.octets.proofs.Splice.{front}
use Rattle.names.specs.Bounds.{longest_name}
use Rattle.name_table.specs.Check.{Held, check_table, names_in, name_in}
use Rattle.name_table.proofs.Held.{held_name}
use Rattle.message.specs.Query.{query_octets}
use Rattle.host.specs.Bounds.{room, latest, sends_in_all}
use Rattle.host.specs.State.{interface_of, setting_of, state_of, with_state, interval_of, timer_from}
use Rattle.host.specs.Outcomes.{Done, silent, query, unique as unique_name}
use Rattle.host.specs.Asking.{check_query, asking}
use Rattle.host.specs.ExactlyWhen.{CalledWell}
use Rattle.host.specs.Served.{DueBy, ServesWhen, HasAsked}
use Rattle.host.specs.ThreeQueries.{Given, ticked as ticked_with, start_of, run_of, Served, ThreeQueries}
use Rattle.host.specs.declared.NameState.{NameState}
use Rattle.host.specs.declared.NameState.TheVariants.{Off, Verifying, Unique, Defending, Stopped, Shared}
use Rattle.host.specs.declared.Interface.{Interface}
use Rattle.host.specs.declared.Host.{Host}
use Rattle.host.proofs.Laws.{other_names, changed_here, changed_name}
use Rattle.host.proofs.Started.{Sends, start_sends}
use Rattle.host.proofs.Ticked.{tick_asks, tick_settles}

-- ---- the query fits

query_fits : (id : ℕ) (x : List ℕ) → length x ≤ longest_name → length (check_query id x) ≤ room
unfolding query_octets
query_fits id x h = simp length-append (omega arith)

-- ---- a name whose check is under way since the state h, on a later state g: it has sent n queries, the last at time t

record Checking (h g : Host) (i k id n t : ℕ) : Type 0 where
  interface : i < length g.interfaces
  place : k < length (interface_of g i).names
  setting : setting_of g i ≡ setting_of h i
  clock : g.clock ≡ t
  state : state_of g i k ≡ Verifying n id (timer_from (setting_of h i) t)
  lower : (j : ℕ) → j < k → state_of g i j ≡ state_of h i j

module _ (h g : Host) (i k : ℕ) (inside : i < length g.interfaces) (place : k < length (interface_of g i).names) where
  checking : (id n t : ℕ) → setting_of g i ≡ setting_of h i → ((j : ℕ) → j < k → state_of g i j ≡ state_of h i j)
      → Checking h (with_state g i k (Verifying n id (timer_from (setting_of g i) t)) t) i k id n t
  checking id n t e lower =
      let s : NameState = Verifying n id (timer_from (setting_of g i) t) in
      let l = changed_here g i k inside place s t in
      record {
        interface = omega (arith, length-set g.interfaces i (record { setting = setting_of g i; names = set (interface_of g i).names k s }));
        place = subst (λ (x : Interface). k < length x.names) (sym l) (omega (arith, length-set (interface_of g i).names k s));
        setting = ap (λ (x : Interface). x.setting) l ∙ e;
        clock = refl;
        state = changed_name g i k inside place s t ∙ ap (λ (x : Setting). Verifying n id (timer_from x t)) e;
        lower = λ j m. other_names g i k t s j (omega arith) ∙ lower j m;
      }

-- ---- a tick that serves it

module _ (h g : Host) (table : List ℕ) (hs : List Held) (i k id n t : ℕ) (x : Given) (checking : Checking h g i k id n t)
    (called : CalledWell g table i x.time x.out hs) (known : k < length hs) (in_time : t + interval_of (setting_of h i) ≤ x.time)
    (alone : (j : ℕ) → j < k → DueBy (state_of h i j) x.time → ⊥) where
  serves : ServesWhen g table i x.time x.out k
  serves =
      record {
        names = hs;
        called = called;
        in_table = known;
        due = subst (λ (s : NameState). DueBy s x.time) (sym checking.state) in_time;
        first = λ j l d. alone j l (subst (λ (s : NameState). DueBy s x.time) (checking.lower j l) d);
      }

  asks : n < sends_in_all
      → ticked_with g table i x
      ≡ asking (with_state g i k (Verifying (n + 1) id (timer_from (setting_of g i) x.time)) x.time) (setting_of g i) k (check_query id (name_in table k).octets) x.out
  asks l = tick_asks g table i x.time x.out x.id k n id _ (record { serves = serves; verifying = checking.state; few = l })

  ends : sends_in_all ≤ n → ticked_with g table i x ≡ silent (with_state g i k Unique x.time) x.out (unique_name k)
  ends l = tick_settles g table i x.time x.out x.id k (record { serves = serves; has_asked = subst HasAsked (sym checking.state) l })

-- ---- one query after another

-- a call has sent the query q of the k-th name, the n-th of its check
record Sent (h : Host) (i k id n time : ℕ) (q out : List ℕ) (d : Done) : Type 0 where
  result : d.result ≡ query k (length q)
  octets : d.octets ≡ put out 0 q
  after : Checking h d.host i k id n time

later : (h g : Host) (table : List ℕ) (hs : List Held) (i k id n t : ℕ) (s x : Given) → Checking h g i k id n t
    → CalledWell h table i s.time s.out hs → room ≤ length x.out → t ≤ x.time → x.time ≤ latest
    → CalledWell g table i x.time x.out hs
later h g table hs i k id n t s x c w space order last =
    let e = c.clock in
    record {
      room = space;
      good_table = w.good_table;
      interface = w.interface;
      used = subst (λ (y : Setting). (y.family ≡ ipv4) ⊎ (y.family ≡ ipv6)) (sym c.setting) w.used;
      latest = last;
      in_order = omega arith;
    }

not_yet : (h : Host) (i k early late : ℕ) → early ≤ late → ((j : ℕ) → j < k → DueBy (state_of h i j) late → ⊥) → (j : ℕ) → j < k → DueBy (state_of h i j) early → ⊥
not_yet h i k early late l a j m w = a j m (more (state_of h i j) w)
  where
    more : (s : NameState) → DueBy s early → DueBy s late
    more (Verifying sends id timer) w = omega arith
    more (Defending id qtype class timer) w = omega arith
    more Off w = w
    more Unique w = w
    more (Stopped until) w = w
    more Shared w = w

module _ (h : Host) (table : List ℕ) (i k : ℕ) (s x y z : Given) (o : Octets table) (served : Served h i k s x y z) (len : ℕ)
    (starts : (start_of h table i k s).result ≡ query k len) where
  abbrev q : List ℕ
  q = check_query s.id (name_in table k).octets

  sends : Sends h table i k s.time s.id s.out
  sends = start_sends h table i k s.time s.id s.out len starts

  called : CalledWell h table i s.time s.out (names_in (check_table table))
  called = sends.called

  known : k < length (names_in (check_table table))
  known = sends.in_table

  started_sent : Sent h i k s.id 1 s.time q s.out (start_of h table i k s)
  started_sent =
      record {
        result = ap (λ (d : Done). d.result) sends.gives;
        octets = ap (λ (d : Done). d.octets) sends.gives;
        after =
            subst (λ (d : Done). Checking h d.host i k s.id 1 s.time) (sym sends.gives)
            (checking h h i k served.interface served.place s.id 1 s.time refl (λ j m. refl));
      }

  sent_again : (g : Host) (n t : ℕ) (u : Given) → Checking h g i k s.id n t → n < sends_in_all → t + interval_of (setting_of h i) ≤ u.time
      → u.time ≤ z.time → room ≤ length u.out → Sent h i k s.id (n + 1) u.time q u.out (ticked_with g table i u)
  sent_again g n t u c l in_time last space =
      let a : t ≤ u.time = omega arith in
      let b : u.time ≤ latest = omega (arith, served.latest) in
      let w = later h g table _ i k s.id n t s u c called space a b in
      let e = asks h g table _ i k s.id n t u c w known in_time (not_yet h i k u.time z.time last served.alone) l in
      record {
        result = ap (λ (d : Done). d.result) e;
        octets = ap (λ (d : Done). d.octets) e;
        after =
            subst (λ (d : Done). Checking h d.host i k s.id (n + 1) u.time) (sym e)
            (checking h g i k c.interface c.place s.id (n + 1) u.time c.setting c.lower);
      }

  fits : length q ≤ room
  fits = let n = held_name table (names_in (check_table table)) o called.good_table k known in
      query_fits s.id (name_in table k).octets (subst (λ (x : List ℕ). length x ≤ longest_name) (sym n.2) n.1.short)

  len_is : length q ≡ len
  len_is = let e = started_sent.result in cc

  written : (n t : ℕ) (out : List ℕ) (d : Done) → Sent h i k s.id n t q out d → room ≤ length out → take len d.octets ≡ q
  written n t out d w space =
      let f = fits in
      let l : length q ≤ length out = omega arith in
      subst (λ (m : ℕ). take m d.octets ≡ q) len_is (ap (take (length q)) w.octets ∙ front out q l)

  all_sent : ThreeQueries table i k s.id len (run_of h table i k s x y z)
  all_sent =
      let first = served.first in
      let second = served.second in
      let third = served.third in
      let a = started_sent in
      let lx : x.time ≤ z.time = omega arith in
      let ly : y.time ≤ z.time = omega arith in
      let b = sent_again (start_of h table i k s).host 1 s.time x a.after (omega arith) first lx served.first_room in
      let c = sent_again (ticked_with (start_of h table i k s).host table i x).host 2 x.time y b.after (omega arith) second ly served.second_room in
      let g : Host = (ticked_with (ticked_with (start_of h table i k s).host table i x).host table i y).host in
      let order : y.time ≤ z.time = ly in
      let w = later h g table _ i k s.id 3 y.time s z c.after called served.third_room order served.latest in
      let e = ends h g table _ i k s.id 3 y.time z c.after w known third served.alone (omega arith) in
      record {
        sent = written 1 s.time s.out _ a called.room;
        again = b.result ∙ ap (query k) len_is;
        same_octets = written 2 x.time x.out _ b served.first_room ∙ sym (written 1 s.time s.out _ a called.room);
        third_time = c.result ∙ ap (query k) len_is;
        same_again = written 3 y.time y.out _ c served.second_room ∙ sym (written 1 s.time s.out _ a called.room);
        then_unique = ap (λ (d : Done). d.result) e;
        state = ap (λ (d : Done). state_of d.host i k) e ∙ changed_name g i k c.after.interface c.after.place Unique z.time;
      }

-- A name whose start sends a query, and that three ticks serve, sends that query three times, with the same octets, and is then Unique.
pub three_queries : (h : Host) (table : List ℕ) (i k len : ℕ) (s x y z : Given) → Octets table → Served h i k s x y z
    → (start_of h table i k s).result ≡ query k len → ThreeQueries table i k s.id len (run_of h table i k s x y z)
three_queries h table i k len s x y z o served starts = all_sent h table i k s x y z o served len starts
