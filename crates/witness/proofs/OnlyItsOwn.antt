-- A reply holds the records of the name that is asked for, wherever it stands in the table; with two names, never the other's.
use Rattle.std.proofs.Common.{ℕ, suc, ◌+◌, ◌<◌, ◌≡◌, refl, sym, ap, ◌∙◌, subst, List, [], ◌∷◌, ◌++◌, map, append-nil, append_assoc, arith, length, get_or}
use Rattle.octets.specs.Octets.{Octets, part_of}
use Rattle.names.specs.Names.{Labels, IsName, encode}
use Rattle.names.specs.Folding.{folded_name}
use Rattle.names.proofs.Names.{same_labels}
use Rattle.name_table.specs.Entries.{NameKind, Data, Entry, resource, names, Owned, leading, owned, valid_for, GoodTable}
use Rattle.host.specs.State.{state_of}
use Rattle.host.specs.Receive.{Arrival, receive}
use Rattle.host.specs.ExactlyWhen.{RepliesWhen}
use Rattle.host.specs.declared.Host.{Host}
use Rattle.witness.specs.Replies.{NameFirst, Group, group_entries, masked, group_records, Owns, WholeReply, ReplyFrom}
use Rattle.witness.specs.SameReply.{two_names}
use Rattle.witness.proofs.Replies.{reply_whole}

-- ---- one name has one list of records

through : (m : ℕ) (rs : List Data) (es : List Entry) → leading m (map resource rs ++ es) ≡ masked m rs ++ leading m es
through m [] es = refl
through m (r ∷ rs) es = ap (λ (x : List Owned). record { valid = m; rdata = r } ∷ x) (through m rs es)

no_more : (m : ℕ) (after : List Entry) → NameFirst after → leading m after ≡ []
no_more m [] u = refl
no_more m (Entry.name kind n ∷ es) u = refl
no_more m (resource d ∷ es) u = absurd u
no_more m (Entry.mask l ∷ es) u = absurd u

group_records_lem : (m : ℕ) (gs : List Group) (after : List Entry) → NameFirst after → leading m (group_entries gs ++ after) ≡ group_records gs
group_records_lem m [] after u = no_more m after u
group_records_lem m (g ∷ gs) after u =
    ap (leading g.mask) (append_assoc (map resource g.records) (group_entries gs) after)
    ∙ through g.mask g.records (group_entries gs ++ after)
    ∙ ap (λ (x : List Owned). masked g.mask g.records ++ x) (group_records_lem g.mask gs after u)

record Found (es : List Entry) (k : ℕ) (n : Labels) (rs : List Owned) : Type 0 where
  inside : k < length (names es)
  name_is : get_or (names es) k [] ≡ n
  records_are : get_or (owned es) k [] ≡ rs

there : (before : List Entry) (kind : NameKind) (n : Labels) (rs : List Data) (gs : List Group) (after : List Entry) → NameFirst after
    → Found (before ++ (Entry.name kind n ∷ (map resource rs ++ (group_entries gs ++ after)))) (length (names before)) n (masked 15 rs ++ group_records gs)
there [] kind n rs gs after u =
    record {
      inside = omega arith;
      name_is = refl;
      records_are = through 15 rs (group_entries gs ++ after) ∙ ap (λ (x : List Owned). masked 15 rs ++ x) (group_records_lem 15 gs after u);
    }
there (Entry.name j m ∷ es) kind n rs gs after u =
    let r = there es kind n rs gs after u in
    record { inside = omega (arith, r.inside); name_is = r.name_is; records_are = r.records_are }
there (resource d ∷ es) kind n rs gs after u =
    let r = there es kind n rs gs after u in
    record { inside = r.inside; name_is = r.name_is; records_are = r.records_are }
there (Entry.mask m ∷ es) kind n rs gs after u =
    let r = there es kind n rs gs after u in
    record { inside = r.inside; name_is = r.name_is; records_are = r.records_are }

found : (es : List Entry) (k : ℕ) (n : Labels) (rs : List Owned) → Owns es k n rs → Found es k n rs
found es k n rs o =
    let r = there o.before o.kind n o.first o.groups o.after o.until in
    subst (λ (x : List Entry). Found x k n rs) (sym o.entries)
    (record {
      inside = omega (arith, r.inside, o.number);
      name_is = ap (λ (j : ℕ). get_or (names (laid o)) j []) (sym o.number) ∙ r.name_is;
      records_are = ap (λ (j : ℕ). get_or (owned (laid o)) j []) (sym o.number) ∙ r.records_are ∙ sym o.records_are;
    })
  where
    laid : Owns es k n rs → List Entry
    laid p = p.before ++ (Entry.name p.kind n ∷ (map resource p.first ++ (group_entries p.groups ++ p.after)))

pub records_of : (es : List Entry) (k : ℕ) (n : Labels) (rs : List Owned) → Owns es k n rs → get_or (owned es) k [] ≡ rs
records_of es k n rs o = (found es k n rs o).records_are

-- the records of the k-th name are determined
pub owns_one : (es : List Entry) (k : ℕ) (n m : Labels) (rs ss : List Owned) → Owns es k n rs → Owns es k m ss → rs ≡ ss
owns_one es k n m rs ss o p = sym (found es k n rs o).records_are ∙ (found es k m ss p).records_are

module _ (h : Host) (a : Arrival) (w : RepliesWhen h a) (o : Octets a.datagram) (ot : Octets a.table) (t : GoodTable a.table)
    (x : Labels) (i : IsName x) (e : part_of a.datagram 12 (12 + w.q.name) ≡ encode x) where
  r : ReplyFrom h a w.q w.k t.entries (receive h a)
  r = reply_whole h a w o ot t

  -- The reply to a question about a name of the table has those of its records that are valid here.
  pub only_its_own : (k : ℕ) (n : Labels) (rs : List Owned) → Owns t.entries k n rs → folded_name n ≡ folded_name x
      → (w.k ≡ k) × WholeReply h a w.q (state_of h a.interface k) (valid_for a.interface rs) (receive h a)
  only_its_own k n rs p f =
      let g = found t.entries k n rs p in
      let y = r.asks in
      let l : y.labels ≡ x = same_labels y.labels x y.is_name.labels i.labels (sym y.octets ∙ e) in
      let m : k ≡ w.k = y.alone k g.inside (ap folded_name g.name_is ∙ f ∙ ap folded_name (sym l)) in
      let c = found t.entries w.k r.name r.records r.owns in
      let b : r.records ≡ rs = sym c.records_are ∙ ap (λ (j : ℕ). get_or (owned t.entries) j []) (sym m) ∙ g.records_are in (
        sym m,
        subst (λ (j : ℕ). WholeReply h a w.q (state_of h a.interface j) (valid_for a.interface rs) (receive h a)) (sym m)
            (subst (λ (z : List Owned). WholeReply h a w.q (state_of h a.interface w.k) (valid_for a.interface z) (receive h a)) b r.whole),
      )

  -- With two names in the table, a question about the first gets the first's records, and one about the second the second's.
  module _ (k l : NameKind) (n m : Labels) (rs ss : List Data) (gs hs : List Group) (two : t.entries ≡ two_names k n rs gs l m ss hs) where
    pub first_of_two : folded_name n ≡ folded_name x
        → WholeReply h a w.q (state_of h a.interface 0) (valid_for a.interface (masked 15 rs ++ group_records gs)) (receive h a)
    first_of_two f =
        (only_its_own 0 n (masked 15 rs ++ group_records gs)
        (record {
          before = [];
          kind = k;
          first = rs;
          groups = gs;
          after = Entry.name l m ∷ (map resource ss ++ group_entries hs);
          entries = two;
          records_are = refl;
          number = refl;
          until = tt;
        })
        f).1

    pub second_of_two : folded_name m ≡ folded_name x
        → WholeReply h a w.q (state_of h a.interface 1) (valid_for a.interface (masked 15 ss ++ group_records hs)) (receive h a)
    second_of_two f =
        (only_its_own 1 m (masked 15 ss ++ group_records hs)
        (record {
          before = Entry.name k n ∷ (map resource rs ++ group_entries gs);
          kind = l;
          first = ss;
          groups = hs;
          after = [];
          entries =
              two
              ∙ ap (λ (z : List Entry). Entry.name k n ∷ (map resource rs ++ (group_entries gs ++ (Entry.name l m ∷ (map resource ss ++ z))))) (sym (append-nil (group_entries hs)))
              ∙ ap (λ (z : List Entry). Entry.name k n ∷ z) (sym (append_assoc (map resource rs) (group_entries gs) (Entry.name l m ∷ (map resource ss ++ (group_entries hs ++ [])))));
          records_are = refl;
          number = ap suc (some rs (group_entries gs) ∙ none gs);
          until = tt;
        })
        f).1
      where
        some : (ds : List Data) (es : List Entry) → length (names (map resource ds ++ es)) ≡ length (names es)
        some [] es = refl
        some (d ∷ ds) es = some ds es

        none : (fs : List Group) → length (names (group_entries fs)) ≡ 0
        none [] = refl
        none (g ∷ fs) = some g.records (group_entries fs) ∙ none fs
