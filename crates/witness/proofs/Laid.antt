-- The records of a name among the entries, and the octets of a reply with them, in the terms of specs/Replies.antt.
use Rattle.std.proofs.Common.{ℕ, suc, zero, ◌+◌, ◌<◌, ◌≡◌, refl, sym, ap, ◌∙◌, List, [], ◌∷◌, ◌++◌, map, append_assoc, Bool, true, cond, arith, length, get_or, eqb}
use Rattle.octets.specs.Tests.{◌or◌}
use Rattle.octets.specs.Octets.{put}
use Rattle.octets.specs.Words.{big_at, big_octets}
use Rattle.octets.proofs.Tests.{split}
use Rattle.names.specs.Names.{Labels}
use Rattle.name_table.specs.Entries.{Data, a as a4, aaaa, ptr, Entry, resource, names, Owned, leading, owned, Answer, answer_of}
use Rattle.message.specs.declared.ReplyHead.{ReplyHead}
use Rattle.message.specs.Header.{header_of}
use Rattle.message.specs.Query.{count_octets}
use Rattle.message.specs.Reply.{Taken, reply_flags, reply_octets, answer_octets, answers_octets, asked_of, taken_of, reply_to, has_room, reply_written}
use Rattle.host.specs.State.{verifying, shared, is}
use Rattle.host.specs.declared.NameState.{NameState}
use Rattle.host.specs.declared.NameState.TheVariants.{Off, Verifying, Unique, Defending, Stopped, Shared}
use Rattle.witness.specs.Replies.{NameFirst, Group, group_entries, masked, group_records, Owns, type_of, asked_for, record_octets, records_octets, reply_of, is_shared, is_verifying}

-- ---- the table

-- the records before any mask, the groups after it, and what follows
record Parted (m : ℕ) (es : List Entry) : Type 0 where
  first : List Data
  groups : List Group
  after : List Entry
  entries : es ≡ map resource first ++ (group_entries groups ++ after)
  records : leading m es ≡ masked m first ++ group_records groups
  until : NameFirst after

parted : (m : ℕ) (es : List Entry) → Parted m es
parted m [] = record { first = []; groups = []; after = []; entries = refl; records = refl; until = tt }
parted m (Entry.name kind n ∷ es) =
    record { first = []; groups = []; after = Entry.name kind n ∷ es; entries = refl; records = refl; until = tt }
parted m (resource d ∷ es) =
    let r = parted m es in
    record {
      first = d ∷ r.first;
      groups = r.groups;
      after = r.after;
      entries = ap (λ (x : List Entry). resource d ∷ x) r.entries;
      records = ap (λ (x : List Owned). record { valid = m; rdata = d } ∷ x) r.records;
      until = r.until;
    }
parted m (Entry.mask l ∷ es) =
    let r = parted l es in
    record {
      first = [];
      groups = record { mask = l; records = r.first } ∷ r.groups;
      after = r.after;
      entries =
          ap (λ (x : List Entry). Entry.mask l ∷ x)
          (r.entries ∙ sym (append_assoc (map resource r.first) (group_entries r.groups) r.after));
      records = r.records;
      until = r.until;
    }

-- with one entry more before
before_it : {es : List Entry} {k j : ℕ} {n : Labels} {os : List Owned} (e : Entry) (r : Owns es k n os) → length (names (e ∷ r.before)) ≡ j
    → Owns (e ∷ es) j n os
before_it e r q =
    record {
      before = e ∷ r.before;
      kind = r.kind;
      first = r.first;
      groups = r.groups;
      after = r.after;
      entries = ap (λ (x : List Entry). e ∷ x) r.entries;
      records_are = r.records_are;
      number = q;
      until = r.until;
    }

-- the k-th of the lists of records is that of the k-th name
pub owns : (es : List Entry) (k : ℕ) → k < length (names es) → Owns es k (get_or (names es) k []) (get_or (owned es) k [])
owns [] k h = absurd (omega arith)
owns (Entry.name kind n ∷ es) zero h =
    let r = parted 15 es in
    record {
      before = [];
      kind = kind;
      first = r.first;
      groups = r.groups;
      after = r.after;
      entries = ap (λ (x : List Entry). Entry.name kind n ∷ x) r.entries;
      records_are = r.records;
      number = refl;
      until = r.until;
    }
owns (Entry.name kind n ∷ es) (suc k) h =
    let r = owns es k (omega arith) in
    before_it (Entry.name kind n) r (ap suc r.number)
owns (resource d ∷ es) k h = let r = owns es k h in before_it (resource d) r r.number
owns (Entry.mask m ∷ es) k h = let r = owns es k h in before_it (Entry.mask m) r r.number

-- ---- records as they are answered

type_is : (d : Data) → (answer_of d).rtype ≡ type_of d
type_is (a4 o) = refl
type_is (aaaa o) = refl
type_is (ptr n) = refl

pub octets_are : (d : Data) → answer_octets (answer_of d) ≡ record_octets d
octets_are (a4 o) = refl
octets_are (aaaa o) = refl
octets_are (ptr n) = refl

pub all_octets : (ds : List Data) → answers_octets (map answer_of ds) ≡ records_octets ds
all_octets [] = refl
all_octets (d ∷ ds) =
    ap (λ (x : List ℕ). x ++ answers_octets (map answer_of ds)) (octets_are d) ∙ ap (λ (x : List ℕ). record_octets d ++ x) (all_octets ds)

pub many : (ds : List Data) → length (map answer_of ds) ≡ length ds
many [] = refl
many (d ∷ ds) = ap suc (many ds)

pub asked_are : (qtype : ℕ) (ds : List Data) → asked_of qtype (map answer_of ds) ≡ map answer_of (asked_for qtype ds)
unfolding asked_of
asked_are qtype [] = refl
asked_are qtype (d ∷ ds) =
    split (eqb (type_of d) qtype or eqb qtype 255)
    (λ e. rw (type_is d, e) (ap (λ (x : List Answer). answer_of d ∷ x) (asked_are qtype ds)))
    (λ e. rw (type_is d, e) (asked_are qtype ds))

-- what is split of the answers is split of the records
pub record Parts (ds : List Data) (xs ys : List Answer) : Type 0 where
  pub given : List Data
  pub left : List Data
  pub are : ds ≡ given ++ left
  pub first : xs ≡ map answer_of given
  pub rest : ys ≡ map answer_of left

pub parts : (ds : List Data) (xs ys : List Answer) → map answer_of ds ≡ xs ++ ys → Parts ds xs ys
parts ds [] ys e = record { given = []; left = ds; are = refl; first = refl; rest = sym e }
parts [] (x ∷ xs) ys e = absurd (omega (arith, ap length e))
parts (d ∷ ds) (x ∷ xs) ys e =
    let f : answer_of d ≡ x = cc in
    let g : map answer_of ds ≡ xs ++ ys = cc in
    let r = parts ds xs ys g in
    let s = r.first in
    record { given = d ∷ r.given; left = r.left; are = ap (λ (l : List Data). d ∷ l) r.are; first = cc; rest = r.rest }

pub shared_is : (s : NameState) → is shared s ≡ is_shared s
shared_is Off = refl
shared_is (Verifying sends id timer) = refl
shared_is Unique = refl
shared_is (Defending id qtype qclass timer) = refl
shared_is (Stopped until) = refl
shared_is Shared = refl

pub verifying_is : (s : NameState) → is verifying s ≡ is_verifying s
verifying_is Off = refl
verifying_is (Verifying sends id timer) = refl
verifying_is Unique = refl
verifying_is (Defending id qtype qclass timer) = refl
verifying_is (Stopped until) = refl
verifying_is Shared = refl

pub reply_plain : (id : ℕ) (c t : Bool) (question : List ℕ) (r : Taken) (ds : List Data) → r.answers ≡ map answer_of ds
    → reply_octets id c t question r ≡ reply_of (big_octets id) (128 + cond c 4 0 + cond r.cut 2 0 + cond t 1 0) question ds
unfolding reply_octets
reply_plain id c t question r ds e =
    ap (λ (x : List Answer). big_octets id ++ reply_flags c r.cut t ++ count_octets (length x) ++ question ++ answers_octets x) e
    ∙ ap (λ (n : ℕ). big_octets id ++ reply_flags c r.cut t ++ count_octets n ++ question ++ answers_octets (map answer_of ds)) (many ds)
    ∙ ap (λ (x : List ℕ). big_octets id ++ reply_flags c r.cut t ++ count_octets (length ds) ++ question ++ x) (all_octets ds)

pub reply_laid : (limit : ℕ) (head : ReplyHead) (question : List ℕ) (qtype : ℕ) (answers : List Answer) → reply_to limit head question qtype answers
    ≡ (big_octets head.id ++ reply_flags head.conflict (taken_of limit qtype question answers).cut head.tentative ++ count_octets (length (taken_of limit qtype question answers).answers))
    ++ (question ++ answers_octets (taken_of limit qtype question answers).answers)
unfolding reply_octets
reply_laid limit head question qtype answers = refl

pub written : (out : List ℕ) (limit : ℕ) (head : ReplyHead) (question : List ℕ) (qtype : ℕ) (answers : List Answer) → has_room out limit question ≡ true
    → reply_written out limit head question qtype answers
    ≡ record { len = length (reply_to limit head question qtype answers); octets = put out 0 (reply_to limit head question qtype answers) }
unfolding reply_written
written out limit head question qtype answers e = rw e

pub id_is : (s : List ℕ) → (header_of s).id ≡ big_at s 0
unfolding header_of
id_is s = refl
