-- A name that a reply of our own host stops is left alone for 30 seconds, whether the reply has answers or not.
use Rattle.std.proofs.Common.{ℕ, ◌+◌, ◌*◌, ◌≡◌, refl, sym, ap, ◌∙◌, subst, ◌≢◌, List, [], ◌∷◌, map, arith, length, take}
use Rattle.name_table.specs.Entries.{Data, answer_of, valid_for}
use Rattle.message.specs.declared.Question.{Question}
use Rattle.message.specs.declared.Header.{Header}
use Rattle.message.specs.declared.ResourceRecord.{ResourceRecord}
use Rattle.message.specs.Header.{header_of, header_at}
use Rattle.message.specs.Question.{question_at, question_or}
use Rattle.message.specs.Records.{AreRecords}
use Rattle.message.specs.Reply.{AreAnswers, Answered}
use Rattle.message.proofs.Headers.{header_is}
use Rattle.host.specs.State.{state_of}
use Rattle.host.specs.Stopping.{StopsUntil, by_ttl, no_answer}
use Rattle.host.specs.Receive.{Arrival, receive}
use Rattle.host.specs.declared.Host.{Host}
use Rattle.host.proofs.Stopping.{stops_until}
use Rattle.witness.specs.Replies.{WholeReply}
use Rattle.witness.proofs.Replies.{reply_whole}
use Rattle.exchange.specs.Lost.{Tells, LosesTo, LeftFor30}

-- with answers, whose first has TTL 30; or with none
rests_30 : (time : ℕ) (s : List ℕ) (at end : ℕ) (name : List ℕ) (given : List Data) → Answered s at end name (map answer_of given)
    → StopsUntil time (length given) s at (time + 30 * 1000)
rests_30 time s at end name [] w = no_answer refl
rests_30 time s at end name (x ∷ xs) w = go w.records w.are_records w.are_answers
  where
    some : length (x ∷ xs) ≢ 0
    some e = omega arith

    go : (rs : List ResourceRecord) → AreRecords s at rs end → AreAnswers s at name (map answer_of (x ∷ xs)) rs
        → StopsUntil time (length (x ∷ xs)) s at (time + 30 * 1000)
    go [] r a = absurd a
    go (y ∷ ys) r a =
        subst (λ (n : ℕ). StopsUntil time (length (x ∷ xs)) s at (time + n * 1000)) a.0.ttl
        (by_ttl y some r.0 (omega (arith, a.0.ttl)))

module _ (h : Host) (a : Arrival) (g : Host) (b : Arrival) (k : ℕ) (w : LosesTo h a g b k) where
  abbrev told : Tells h a
  told = w.tells

  abbrev whole : WholeReply h a told.replies.q (state_of h a.interface told.replies.k) (valid_for a.interface (reply_whole h a told.replies told.octets told.table_octets told.table).records) (receive h a)
  whole = (reply_whole h a told.replies told.octets told.table_octets told.table).whole

  -- the reply is what arrives
  here : take whole.len (receive h a).octets ≡ b.datagram
  here =
      let r = whole.result in
      let e = w.reply_is in
      let n : whole.len ≡ w.len = cc in
      ap (λ (m : ℕ). take m (receive h a).octets) n ∙ sym w.datagram

  -- and its question is the one that is read there
  same_question : told.replies.q ≡ w.stops.q
  same_question =
      ap question_or
      (sym whole.reads_question
      ∙ ap (λ (x : List ℕ). question_at x 12) here
      ∙ w.stops.match.response.arrives.question)

  answers_here : length whole.given ≡ (header_of b.datagram).answers
  answers_here = sym (ap (λ (x : Header). x.answers) (header_is b.datagram _ (ap header_at (sym here) ∙ whole.reads_header)))

  until_here : StopsUntil b.time (header_of b.datagram).answers b.datagram w.stops.q.end (b.time + 30 * 1000)
  until_here =
      subst (λ (n : ℕ). StopsUntil b.time n b.datagram w.stops.q.end (b.time + 30 * 1000)) answers_here
      (subst (λ (q : Question). StopsUntil b.time (length whole.given) b.datagram q.end (b.time + 30 * 1000)) same_question
      (subst (λ (s : List ℕ). StopsUntil b.time (length whole.given) s told.replies.q.end (b.time + 30 * 1000)) here
      (rests_30 b.time _ told.replies.q.end _ _ whole.given whole.reads_records)))

  pub left_for_30 : LeftFor30 g b k (receive g b)
  left_for_30 = stops_until g b w.octets k w.stops (b.time + 30 * 1000) until_here
