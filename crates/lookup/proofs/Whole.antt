-- Each call meets its plain statement of specs/Whole.antt, and nothing else does: so the statements leave nothing open.
use Rattle.std.proofs.Common.{ℕ, ◌≤◌, ◌≡◌, refl, sym, ◌∙◌, ◌↔◌, List, Bool, length, get_or}
use Rattle.octets.specs.Octets.{Octets}
use Rattle.octets.specs.Addresses.{unused}
use Rattle.octets.specs.declared.Endpoint.{Endpoint}
use Rattle.octets.specs.declared.Setting.{Setting}
use Rattle.octets.proofs.PlainAddresses.{group_one}
use Rattle.refusal.specs.Numbers.{Report}
use Rattle.refusal.specs.Cases.{Case, First}
use Rattle.host.proofs.Conditions.{has_interval}
use Rattle.lookup.specs.State.{setting_of}
use Rattle.lookup.specs.Outcomes.{CallResult, refused, Done}
use Rattle.lookup.specs.Start.{start}
use Rattle.lookup.specs.Receive.{Arrival, receive}
use Rattle.lookup.specs.Tick.{tick}
use Rattle.lookup.specs.Laws.{Unchanged}
use Rattle.lookup.specs.ExactlyWhen.{Asks, zero_lookup, RepeatsWhen}
use Rattle.lookup.specs.Whole.{RefusedExactly, PlainStart, PlainReceive, PlainTick}
use Rattle.lookup.specs.declared.Lookup.{Lookup}
use Rattle.lookup.proofs.Laws.{Starts, start_is, start_refused, receive_refused, tick_refused}
use Rattle.lookup.proofs.Conditions.{used_is}
use Rattle.lookup.proofs.Turns.{repeats, gives_up, finishes, rests}
use Rattle.lookup.proofs.Refusals.{start_refused_exactly, receive_refused_exactly, tick_refused_exactly}
use Rattle.lookup.proofs.Started.{start_asks, starts_when}
use Rattle.lookup.proofs.Received.{found_is, found_exactly, part_is, part_exactly, Came as Heard, refused_so, found_so, part_so, came_is}
use Rattle.lookup.proofs.Ticked.{repeats_is, gives_up_is, finishes_is, quiet_is, Came as Served, refused_first, came, came_is as served, used_here}

-- ---- results

same_done : {l m : Lookup} {r s : CallResult} {t u : Endpoint} {x y : List ℕ} → l ≡ m → r ≡ s → t ≡ u → x ≡ y
    → ◌≡◌ {A = Done} (record { lookup = l; result = r; to = t; octets = x }) (record { lookup = m; result = s; to = u; octets = y })
same_done e f g k = rw (e, f, g, k)

asks_one : (l : Lookup) (sent out : List ℕ) (d e : Done) → Asks l sent out d → Asks l sent out e → d ≡ e
asks_one l sent out d e v w =
    same_done (v.lookup ∙ sym w.lookup) (v.result ∙ sym w.result) (group_one _ _ _ v.to w.to) (v.octets ∙ sym w.octets)

refused_exactly : (l : Lookup) (out : List ℕ) (cases : List Case) (d : Done) → ((t : Report) → (d.result ≡ refused t) ↔ First t cases)
    → ((t : Report) → d.result ≡ refused t → Unchanged l out d) → RefusedExactly l out cases d
refused_exactly l out cases d f g = record { exactly = f; nothing_else = λ t e. let u = g t e in same_done u.lookup e u.to u.octets }

-- two results that are refused exactly alike, where the one is refused
both_refused : (l : Lookup) (out : List ℕ) (cases : List Case) (d e : Done) → RefusedExactly l out cases d → RefusedExactly l out cases e
    → (t : Report) → e.result ≡ refused t → d ≡ e
both_refused l out cases d e v w t q = v.nothing_else t ((v.exactly t).1 ((w.exactly t).0 q)) ∙ sym (w.nothing_else t q)

-- ---- start

module _ (settings : List Setting) (i : ℕ) (name : List ℕ) (qtype : ℕ) (permission : Bool) (time id : ℕ) (out : List ℕ) (o : Octets name) where
  pub start_is_plain : PlainStart settings i name qtype permission time id out (start settings i name qtype permission time id out)
  start_is_plain =
      record {
        refusals =
            refused_exactly zero_lookup out _ _ (start_refused_exactly settings i name qtype permission time id out o)
            (start_refused settings i name qtype permission time id out);
        accepted = start_asks settings i name qtype permission time id out o;
      }

  pub plain_is_start : (d : Done) → PlainStart settings i name qtype permission time id out d → d ≡ start settings i name qtype permission time id out
  plain_is_start d p = go (start_is settings i name qtype permission time id out) start_is_plain
    where
      go : {e : Done} → Starts settings i name qtype permission time id out e → PlainStart settings i name qtype permission time id out e → d ≡ e
      go (Starts.refuses t) s = both_refused zero_lookup out _ d _ p.refusals s.refusals t refl
      go (Starts.asks c) s =
          let w = starts_when settings i name qtype permission time id out o c in
          let n = has_interval (get_or settings i unused) in
          asks_one _ _ out d _ (p.accepted w n.0 n.1) (s.accepted w n.0 n.1)

-- ---- receive

module _ (l : Lookup) (a : Arrival) (o : Octets a.datagram) where
  pub receive_is_plain : PlainReceive l a (receive l a)
  receive_is_plain =
      record {
        refusals = refused_exactly l a.out _ _ (receive_refused_exactly l a o) (receive_refused l a);
        clear_response = found_is l a o;
        set_response = part_is l a o;
      }

  pub plain_is_receive : (d : Done) → PlainReceive l a d → d ≡ receive l a
  plain_is_receive d p = go refl (came_is l a o)
    where
      go : {r : CallResult} → (receive l a).result ≡ r → Heard l a o r → d ≡ receive l a
      go e (refused_so t) = both_refused l a.out _ d _ p.refusals receive_is_plain.refusals t e
      go e (found_so at n) =
          let w = (found_exactly l a o at n).0 e in
          p.clear_response w.0 w.1 ∙ sym (found_is l a o w.0 w.1)
      go e (part_so at n) =
          let w = (part_exactly l a o at n).0 e in
          p.set_response w.0 w.1 w.2 ∙ sym (part_is l a o w.0 w.1 w.2)

-- ---- tick

module _ (l : Lookup) (time id : ℕ) (out : List ℕ) (s : length l.name ≤ 255) where
  pub tick_is_plain : PlainTick l time out (tick l time id out)
  tick_is_plain =
      record {
        refusals = refused_exactly l out _ _ (tick_refused_exactly l time id out) (tick_refused l time id out);
        repeats = λ sends n. repeats_is l time id out sends n s;
        gives_up = gives_up_is l time id out;
        finishes = finishes_is l time id out;
        rests = quiet_is l time id out;
      }

  pub plain_is_tick : (d : Done) → PlainTick l time out d → d ≡ tick l time id out
  plain_is_tick d p = go (served l time id out) tick_is_plain
    where
      go : {e : Done} → Served l time id out e → PlainTick l time out e → d ≡ e
      go (refused_first t) q = both_refused l out _ d _ p.refusals q.refusals t refl
      go (came v w (repeats n timer u c x f)) q =
          let r : RepeatsWhen l time out n = record { ticks = w; used = used_here l time id out u; timer = timer; phase = c; due = x; few = f } in
          let i = has_interval (setting_of l) in
          asks_one _ _ out d _ (p.repeats n i.0 r i.1) (q.repeats n i.0 r i.1)
      go (came v w (gives_up n timer u c x f)) q =
          p.gives_up (record { ticks = w; used = used_here l time id out u; sends = n; timer = timer; phase = c; due = x; all_sent = f })
      go (came v w (finishes timer u c x)) q = p.finishes (record { ticks = w; used = used_here l time id out u; timer = timer; phase = c; due = x })
      go (came v w (rests n)) q = p.rests (record { ticks = w; none = λ u x. n ((used_is l.interface (setting_of l)).1 u) x })
