-- Every record of a reply has the bit of the interface asked. A table without kind 6 is answered as it was, octet by octet.
use Rattle.std.proofs.Common.{ℕ, ◌+◌, ◌<◌, ◌≡◌, refl, ap, ◌∙◌, subst, List, [], ◌∷◌, ◌++◌, map, length, eqb}
use Rattle.octets.specs.Tests.{◌or◌}
use Rattle.octets.specs.Octets.{Octets, part_of}
use Rattle.octets.proofs.Tests.{split}
use Rattle.name_table.specs.Masks.{is_valid}
use Rattle.name_table.specs.Check.{Held, good, check_table, name_in}
use Rattle.name_table.specs.Entries.{Data, Entry, Owned, valid_for}
use Rattle.name_table.specs.Records.{records_of, valid_on, answer_in}
use Rattle.name_table.specs.declared.Record.{Record}
use Rattle.name_table.specs.Before.{check_before, records_before}
use Rattle.name_table.proofs.Held.{found_below}
use Rattle.name_table.proofs.Masks.{valid_exactly, everywhere_valid, one_more}
use Rattle.name_table.proofs.Before.{good_before, records_before_lem}
use Rattle.message.specs.Reply.{reply_written}
use Rattle.message.specs.declared.Question.{Question}
use Rattle.host.specs.State.{state_of}
use Rattle.host.specs.Outcomes.{Done}
use Rattle.host.specs.Receive.{Arrival, reply_head_of, replied, receive}
use Rattle.host.specs.ExactlyWhen.{RepliesWhen}
use Rattle.host.specs.declared.Host.{Host}
use Rattle.host.proofs.Received.{replies}
use Rattle.witness.specs.Replies.{type_of, asked_for, masked, AllValid, ReplyFrom}

-- ---- the interface's bit

-- of a longer list of records
longer : (i : ℕ) (c : Owned) (os : List Owned) (ds : List Data) → AllValid i os ds → AllValid i (c ∷ os) ds
longer i c os [] v = tt
longer i c os (d ∷ ds) v = ((v.0.0, 1 + v.0.1, one_more c v.0.2 refl, v.0.3), longer i c os ds v.1)

all_valid : (i : ℕ) (os : List Owned) → AllValid i os (valid_for i os)
all_valid i [] = tt
all_valid i (o ∷ os) =
    split (is_valid o.valid i)
    (λ e. rw e ((o.valid, 0, record { earlier = []; later = os; are = refl; number = refl }, (valid_exactly o.valid i).0 e), longer i o os (valid_for i os) (all_valid i os)))
    (λ e. rw e (longer i o os (valid_for i os) (all_valid i os)))

of_asked : (i : ℕ) (os : List Owned) (qtype : ℕ) (ds : List Data) → AllValid i os ds → AllValid i os (asked_for qtype ds)
of_asked i os qtype [] v = tt
of_asked i os qtype (d ∷ ds) v =
    split (eqb (type_of d) qtype or eqb qtype 255)
    (λ e. rw e (v.0, of_asked i os qtype ds v.1))
    (λ e. rw e (of_asked i os qtype ds v.1))

of_first : (i : ℕ) (os : List Owned) (ds es : List Data) → AllValid i os (ds ++ es) → AllValid i os ds
of_first i os [] es v = tt
of_first i os (d ∷ ds) es v = (v.0, of_first i os ds es v.1)

-- Every record of a reply is one of the name's records whose mask has the bit of the interface asked.
pub only_valid : (h : Host) (a : Arrival) (q : Question) (k : ℕ) (es : List Entry) (d : Done) (r : ReplyFrom h a q k es d)
    → AllValid a.interface r.records r.whole.given
only_valid h a q k es d r =
    of_first a.interface r.records r.whole.given r.whole.left
    (subst (AllValid a.interface r.records) r.whole.asked
    (of_asked a.interface r.records q.qtype (valid_for a.interface r.records) (all_valid a.interface r.records)))

-- Records before any kind 6 are valid on each of the four interfaces.
pub all_everywhere : (i : ℕ) → i < 4 → (ds : List Data) → valid_for i (masked 15 ds) ≡ ds
all_everywhere i h [] = refl
all_everywhere i h (d ∷ ds) = rw (everywhere_valid i h) (ap (λ (x : List Data). d ∷ x) (all_everywhere i h ds))

-- ---- as before

-- From a table that was good before there were masks, the reply is the one that it was: it has all records of the name that are asked for.
pub reply_before : (h : Host) (a : Arrival) (w : RepliesWhen h a) (hs : List Held) → Octets a.table → check_before a.table ≡ good hs
    → receive h a
    ≡ replied h a
    (reply_written a.out 512 (reply_head_of a (state_of h a.interface w.k)) (part_of a.datagram 12 w.q.end) w.q.qtype
    (map (answer_in a.table) (records_before a.table (name_in a.table w.k).end)))
reply_before h a w hs o e =
    let g : check_table a.table ≡ good hs = good_before a.table hs e in
    let n : w.names ≡ hs = let x = w.query.arrives.called.good_table in cc in
    let k : w.k < length hs = subst (λ (x : List Held). w.k < length x) n (found_below w.names _ w.k w.name) in
    let c : valid_on a.interface (records_of a.table (name_in a.table w.k).end) ≡ records_before a.table (name_in a.table w.k).end =
    rw g (records_before_lem a.interface w.query.arrives.called.interface a.table hs w.k o e k) in
    replies h a w
    ∙ ap (λ (x : List Record). replied h a (reply_written a.out 512 (reply_head_of a (state_of h a.interface w.k)) (part_of a.datagram 12 w.q.end) w.q.qtype (map (answer_in a.table) x))) c
