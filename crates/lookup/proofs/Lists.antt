-- At most three queries go out in any list of calls on one lookup, its start included, all with the same octets.
use Rattle.names.specs.declared.Name.{Name}
use Rattle.std.proofs.Common.{None, Option, Some, ℕ, suc, ◌+◌, ◌-◌, ◌≤◌, ◌≡◌, refl, ap, ◌∙◌, subst, List, [], ◌∷◌, ◌++◌, Bool, false, not, arith, length, take, replicate, eqb, eqb-true}
use Rattle.octets.specs.Octets.{put}
use Rattle.octets.specs.declared.Setting.{Setting}
use Rattle.octets.proofs.Tests.{split, never, not_below, not_not, neither}
use Rattle.octets.proofs.Splice.{front}
use Rattle.names.specs.Bounds.{longest_name}
use Rattle.names.specs.NameWalk.{name_at}
use Rattle.names.proofs.NameWalk.{name_fits}
use Rattle.message.specs.Bounds.{class_in}
use Rattle.message.specs.Question.{question_octets}
use Rattle.message.proofs.Questions.{question_length}
use Rattle.message.proofs.Query.{query_length}
use Rattle.host.specs.Bounds.{room}
use Rattle.host.specs.Early.{no_interface}
use Rattle.lookup.specs.State.{setting_of, name_of, ended_lookup}
use Rattle.lookup.specs.Outcomes.{Done, query_for}
use Rattle.lookup.specs.Start.{bad_name, started_lookup, start}
use Rattle.lookup.specs.Receive.{Arrival, header, collecting}
use Rattle.lookup.specs.Tick.{rest, again, give_up, finish}
use Rattle.lookup.specs.Lists.{Call, arrives, ticks, run, sent_by, sent, SendsAtMost}
use Rattle.lookup.specs.ExactlyWhen.{lookup_query}
use Rattle.lookup.specs.declared.Phase.{Phase}
use Rattle.lookup.specs.declared.Phase.TheVariants.{Asking, Collecting, Ended}
use Rattle.lookup.specs.declared.Lookup.{Lookup}
use Rattle.lookup.proofs.Started.{query_is}
use Rattle.lookup.proofs.Turns.{Serves, repeats, serves_is}
use Rattle.lookup.proofs.Laws.{Starts, start_is, Receives, receive_is, Ticks, tick_is}

-- ---- lists that send

weaker : {m n : ℕ} {q : List ℕ} {ds : List Done} → m ≤ n → SendsAtMost m q ds → SendsAtMost n q ds
weaker l s = record { many = s.many; few = omega (arith, s.few); same = s.same }

-- one more, which sends
and_one : {m : ℕ} {q : List ℕ} {ds : List Done} (d : Done) → sent_by d.result d.octets ≡ q ∷ [] → SendsAtMost m q ds → SendsAtMost (suc m) q (d ∷ ds)
and_one {q = q} {ds = ds} d e s =
    record { many = suc s.many; few = omega (arith, s.few); same = ap (λ (x : List (List ℕ)). x ++ sent ds) e ∙ ap (λ (x : List (List ℕ)). q ∷ x) s.same }

-- one more, which does not
and_none : {m : ℕ} {q : List ℕ} {ds : List Done} (d : Done) → sent_by d.result d.octets ≡ [] → SendsAtMost m q ds → SendsAtMost m q (d ∷ ds)
and_none {ds = ds} d e s = record { many = s.many; few = s.few; same = ap (λ (x : List (List ℕ)). x ++ sent ds) e ∙ s.same }

-- ---- from any lookup

-- the sends that a lookup in a phase has left
abbrev left : Phase → ℕ
left (Asking sends timer) = 3 - sends
left (Collecting timer) = 0
left Ended = 0

-- its query has these octets, which every buffer holds
record Asks (l : Lookup) (q : List ℕ) : Type 0 where
  query_is : query_for l.id (name_of l) l.qtype ≡ q
  short : length q ≤ room

-- the query goes out again only while it asks and has been sent less than three times
again_left : {unused : Bool} {p : Phase} {time n : ℕ} → Serves unused p time (again n) → suc (3 - (n + 1)) ≤ left p
again_left (repeats sends timer u e d l) = rw e (omega arith)

-- one call, and the calls after it
module _ (l : Lookup) (q : List ℕ) (k : Asks l q) (cs : List Call) (next : (m : Lookup) → Asks m q → SendsAtMost (left m.phase) q (run m cs)) where
  after_arrival : (a : Arrival) {d : Done} → Receives l a d → SendsAtMost (left l.phase) q (d ∷ run d.lookup cs)
  after_arrival a (Receives.refuses t) = and_none _ refl (next l k)
  after_arrival a (Receives.hears c) =
      split (header a).conflict
      (λ e. rw e (and_none _ refl (weaker (fewer l.phase) (next _ (record { query_is = k.query_is; short = k.short })))))
      (λ e. rw e (and_none _ refl (weaker (omega arith) (next _ (record { query_is = k.query_is; short = k.short })))))
    where
      fewer : (p : Phase) → left (collecting p) ≤ left p
      fewer (Asking sends timer) = omega arith
      fewer (Collecting timer) = omega arith
      fewer Ended = omega arith

  after_tick : (time : ℕ) (out : List ℕ) {d : Done} → Ticks l time out d → SendsAtMost (left l.phase) q (d ∷ run d.lookup cs)
  after_tick time out (Ticks.refuses t) = and_none _ refl (next l k)
  after_tick time out (Ticks.serves rest w c) = and_none _ refl (next _ (record { query_is = k.query_is; short = k.short }))
  after_tick time out (Ticks.serves (again n) w c) =
      let e = k.query_is in
      let f : length (query_for l.id (name_of l) l.qtype) ≤ length out = rw e (omega (arith, k.short, (not_below (length out) room).0 c.0)) in
      weaker (again_left (subst (Serves (no_interface l.interface (setting_of l).family) l.phase time) w (serves_is _ l.phase time)))
      (and_one _ (ap (λ (x : List ℕ). x ∷ []) (front out (query_for l.id (name_of l) l.qtype) f ∙ e))
      (next _ (record { query_is = k.query_is; short = k.short })))
  after_tick time out (Ticks.serves give_up w c) = and_none _ refl (weaker (omega arith) (next _ (record { query_is = k.query_is; short = k.short })))
  after_tick time out (Ticks.serves finish w c) = and_none _ refl (weaker (omega arith) (next _ (record { query_is = k.query_is; short = k.short })))

sends_few : (l : Lookup) (q : List ℕ) → Asks l q → (cs : List Call) → SendsAtMost (left l.phase) q (run l cs)
sends_few l q k [] = record { many = 0; few = omega arith; same = refl }
sends_few l q k (arrives a ∷ cs) = after_arrival l q k cs (λ m j. sends_few m q j cs) a (receive_is l a)
sends_few l q k (ticks time id out ∷ cs) = after_tick l q k cs (λ m j. sends_few m q j cs) time out (tick_is l time id out)

-- ---- from a start

-- a name that passes check 10 has at most 255 octets
name_short : (name : List ℕ) (r : Option Name) → name_at name 0 ≡ r → bad_name name r ≡ false → length name ≤ 255
name_short name (Some n) e b =
    let f = (neither (eqb n.len 1) (not (eqb n.len (length name)))).0 b in
    omega (arith, (name_fits name 0 n e).0, eqb-true n.len (length name) ((not_not (eqb n.len (length name))).0 f.1))
name_short name None e b = never refl b

query_short : (id : ℕ) (name : List ℕ) (qtype : ℕ) → length name ≤ 255 → length (query_for id name qtype) ≤ room
query_short id name qtype l = omega (arith, query_length id 0 (question_octets name qtype class_in), question_length name qtype class_in)

-- the array holds the name
kept_name : (name : List ℕ) → length name ≤ 255 → take (length name) (put (replicate longest_name 0) 0 name) ≡ name
kept_name name l = front (replicate longest_name 0) name (omega arith)

-- the ended lookup that a refused start gives sends nothing
none_after : (q : List ℕ) (cs : List Call) → SendsAtMost 0 q (run ended_lookup cs)
none_after q cs =
    let s = sends_few ended_lookup (query_for 0 [] 0) (record { query_is = refl; short = query_short 0 [] 0 (omega arith) }) cs in
    let n : s.many ≡ 0 = omega (arith, s.few) in
    record { many = 0; few = omega arith; same = s.same ∙ ap (λ (m : ℕ). replicate m (query_for 0 [] 0)) n }

-- A start, accepted or not, and any list of calls on what it gives. The query has the start's ID, flags 0, the name, the type and class 1.
pub three_queries_at_most : (settings : List Setting) (i : ℕ) (name : List ℕ) (qtype : ℕ) (permission : Bool) (time id : ℕ) (out : List ℕ) (cs : List Call)
    → SendsAtMost 3 (lookup_query id name qtype) (start settings i name qtype permission time id out ∷ run (start settings i name qtype permission time id out).lookup cs)
three_queries_at_most settings i name qtype permission time id out cs = rw (← query_is id name qtype) (go (start_is settings i name qtype permission time id out))
  where
    go : {d : Done} → Starts settings i name qtype permission time id out d → SendsAtMost 3 (query_for id name qtype) (d ∷ run d.lookup cs)
    go (Starts.refuses t) = and_none _ refl (weaker (omega arith) (none_after (query_for id name qtype) cs))
    go (Starts.asks c) =
        let s = name_short name (name_at name 0) refl c.1.1.1.0 in
        let f = query_short id name qtype s in
        let k : Asks (started_lookup settings i name qtype time id) (query_for id name qtype) =
        record { query_is = ap (λ (x : List ℕ). query_for id x qtype) (kept_name name s); short = f } in
        and_one _ (ap (λ (x : List ℕ). x ∷ []) (front out (query_for id name qtype) (omega (arith, f, (not_below (length out) room).0 c.0))))
        (sends_few (started_lookup settings i name qtype time id) (query_for id name qtype) k cs)
