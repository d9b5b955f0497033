-- Replies: what the writers leave in the buffer.
use Rattle.std.proofs.Common.{ℕ, ◌+◌, ◌-◌, ◌<◌, ◌≤◌, ◌≡◌, refl, sym, ap, ◌∙◌, subst, List, [], ◌∷◌, ◌++◌, append_assoc, append-nil, map, Bool, true, false, arith, length, drop, length-append, ltb, lt-ltb, le-ltb, le-leb, ltb-true, ltb-false}
use Rattle.std.proofs.lemmas.Bool.{lt-leb}
use borrow.Rule.Slice.PartMut.{mid_of, put_mid}
use Rattle.octets.specs.Octets.{splice, put}
use Rattle.octets.specs.Words.{big_octets}
use Rattle.octets.specs.Tests.{◌and◌}
use Rattle.octets.proofs.Tests.{split, never, both}
use Rattle.octets.proofs.Splice.{splice_none, splice_start, splice_splice, length_splice, part_after, put_in, put_after, drop_splice}
use Rattle.name_table.specs.Bounds.{everywhere}
use Rattle.name_table.specs.Masks.{is_valid}
use Rattle.name_table.specs.Entries.{Answer}
use Rattle.name_table.specs.Records.{record_at, Masked, records_under, valid_on, answer_in}
use Rattle.name_table.specs.declared.Record.{Record}
use Rattle.name_table.specs.declared.RecordRead.TheVariants.{Good, Mask, End}
use Rattle.name_table.proofs.Records.{read_is_inside, records_on, records_mask, records_end}
use Rattle.message.specs.declared.Answers.{Answers}
use Rattle.message.specs.declared.ReplyHead.{ReplyHead}
use Rattle.message.specs.Bounds.{header_octets, class_in, reply_ttl, before_data}
use Rattle.message.specs.Reply.{reply_flags, answer_octets, answers_octets, is_asked, Taken, taken_from, asked_of, AreTaken, taken_of, reply_octets, answers_in, reply_to, reply_written, Filled}

-- ---- one answer

-- xs stand at the start of a buffer b, which was d
record Starts (d xs b : List ℕ) : Type 0 where
  is : b ≡ splice d 0 xs

first : {b : List ℕ} (d xs : List ℕ) → b ≡ put d 0 xs → length xs ≤ length d → Starts d xs b
first d xs e h = record { is = e ∙ put_in d 0 xs (omega arith) }

-- a run of octets is written after them
next : {d xs b y : List ℕ} (ys : List ℕ) (at : ℕ) → Starts d xs b → y ≡ put b at ys → at ≡ length xs → at + length ys ≤ length d
    → Starts d (xs ++ ys) y
next {d} {xs} {b} ys at s e a h = record { is = e ∙ put_after d xs ys b 0 at (omega arith) s.is h }

-- seven writes, one after another, are an answer
pub answer_written : (d : List ℕ) (rtype : ℕ) (o : List ℕ) {b1 b2 b3 b4 b5 b6 b7 : List ℕ} → before_data + length o ≤ length d
    → b1 ≡ put d 0 (0xC0 ∷ 0x0C ∷ [])
    → b2 ≡ put b1 2 (big_octets rtype)
    → b3 ≡ put b2 4 (big_octets class_in)
    → b4 ≡ put b3 6 (big_octets 0)
    → b5 ≡ put b4 8 (big_octets reply_ttl)
    → b6 ≡ put b5 10 (big_octets (length o))
    → b7 ≡ put b6 before_data o
    → b7 ≡ splice d 0 (answer_octets (record { rtype = rtype; octets = o }))
answer_written d rtype o h e1 e2 e3 e4 e5 e6 e7 =
    let w1 = first d (0xC0 ∷ 0x0C ∷ []) e1 (omega arith) in
    let w2 = next (big_octets rtype) 2 w1 e2 refl (omega arith) in
    let w3 = next (big_octets class_in) 4 w2 e3 refl (omega arith) in
    let w4 = next (big_octets 0) 6 w3 e4 refl (omega arith) in
    let w5 = next (big_octets reply_ttl) 8 w4 e5 refl (omega arith) in
    let w6 = next (big_octets (length o)) 10 w5 e6 refl (omega arith) in
    (next o before_data w6 e7 refl h).is

-- ---- which answers are taken: a turn

pub taken_none : (limit qtype used : ℕ) → taken_from limit qtype used [] ≡ record { answers = []; cut = false }
unfolding taken_from
taken_none limit qtype used = refl

module _ (limit qtype used : ℕ) (a : Answer) (rest : List Answer) where
  pub taken_skip : is_asked qtype a.rtype ≡ false → taken_from limit qtype used (a ∷ rest) ≡ taken_from limit qtype used rest
  unfolding taken_from
  taken_skip e = rw e

  pub taken_cut : is_asked qtype a.rtype ≡ true → limit < used + length (answer_octets a)
      → taken_from limit qtype used (a ∷ rest) ≡ record { answers = []; cut = true }
  unfolding taken_from
  taken_cut e h = rw (e, lt-ltb _ _ h)

  pub taken_on : is_asked qtype a.rtype ≡ true → used + length (answer_octets a) ≤ limit
      → taken_from limit qtype used (a ∷ rest)
      ≡ record {
        answers = a ∷ (taken_from limit qtype (used + length (answer_octets a)) rest).answers;
        cut = (taken_from limit qtype (used + length (answer_octets a)) rest).cut;
      }
  unfolding taken_from
  taken_on e h = rw (e, le-ltb _ _ h)

-- the octets of answers, of which each has some
pub octets_of : (xs ys : List Answer) → answers_octets (xs ++ ys) ≡ answers_octets xs ++ answers_octets ys
octets_of [] ys = refl
octets_of (a ∷ xs) ys =
    ap (λ (r : List ℕ). answer_octets a ++ r) (octets_of xs ys) ∙ sym (append_assoc (answer_octets a) (answers_octets xs) (answers_octets ys))

pub octets_of_one : (xs : List Answer) (a : Answer) → answers_octets (xs ++ (a ∷ [])) ≡ answers_octets xs ++ answer_octets a
octets_of_one xs a = octets_of xs (a ∷ []) ∙ ap (λ (r : List ℕ). answers_octets xs ++ r) (append-nil (answer_octets a))

pub octets_count : (xs : List Answer) → length xs ≤ length (answers_octets xs)
octets_count [] = omega arith
octets_count (a ∷ xs) = omega (arith, octets_count xs, length-append (answer_octets a) (answers_octets xs))

-- ---- which answers are taken: all

taken_by : {limit used : ℕ} {x y : List Answer} {t u : Taken} → x ≡ y → t ≡ u → AreTaken limit used y u → AreTaken limit used x t
taken_by {limit} {used} {x} {y} {t} {u} p q r =
    subst (λ (z : List Answer). AreTaken limit used z t) (sym p) (subst (λ (v : Taken). AreTaken limit used y v) (sym q) r)

module _ (qtype : ℕ) (a : Answer) (rest : List Answer) where
  asked_yes : is_asked qtype a.rtype ≡ true → asked_of qtype (a ∷ rest) ≡ a ∷ asked_of qtype rest
  unfolding asked_of
  asked_yes e = rw e

  asked_no : is_asked qtype a.rtype ≡ false → asked_of qtype (a ∷ rest) ≡ asked_of qtype rest
  unfolding asked_of
  asked_no e = rw e

all_taken : (limit used : ℕ) → used ≤ limit → AreTaken limit used [] (record { answers = []; cut = false })
all_taken limit used h =
    record { rest = []; first = refl; within = omega arith; whole = (λ e. refl, λ e. refl); left_out = λ e. never e refl }

cut_there : (limit used : ℕ) (a : Answer) (more : List Answer) → used ≤ limit → limit < used + length (answer_octets a)
    → AreTaken limit used (a ∷ more) (record { answers = []; cut = true })
cut_there limit used a more h g =
    record {
      rest = a ∷ more;
      first = refl;
      within = omega arith;
      whole = (λ e. never refl e, λ e. let z : ◌≡◌ {A = ℕ} 0 1 = cc in absurd (omega arith));
      left_out = λ e. record { first = a; more = more; are = refl; passes = omega arith };
    }

one_taken : (limit used : ℕ) (a : Answer) (more : List Answer) (t : Taken) → AreTaken limit (used + length (answer_octets a)) more t
    → AreTaken limit used (a ∷ more) (record { answers = a ∷ t.answers; cut = t.cut })
one_taken limit used a more t r =
    let l = length-append (answer_octets a) (answers_octets t.answers) in
    record {
      rest = r.rest;
      first = ap (λ (x : List Answer). a ∷ x) r.first;
      within = omega (arith, r.within);
      whole = r.whole;
      left_out = λ e.
          let o = r.left_out e in
          record { first = o.first; more = o.more; are = o.are; passes = omega (arith, o.passes) };
    }

-- The answers that are taken are the first that are asked for. They stay within the limit; TC is set exactly if one is left out, and
-- that one would pass the limit. So one that ends exactly at the limit is taken.
pub taken_are : (limit qtype used : ℕ) (answers : List Answer) → used ≤ limit
    → AreTaken limit used (asked_of qtype answers) (taken_from limit qtype used answers)
unfolding asked_of
taken_are limit qtype used [] h = taken_by refl (taken_none limit qtype used) (all_taken limit used h)
taken_are limit qtype used (a ∷ rest) h =
    split (is_asked qtype a.rtype)
    (λ k. split (ltb limit (used + length (answer_octets a)))
    (λ g. let p = ltb-true _ _ g in
    taken_by (asked_yes qtype a rest k) (taken_cut limit qtype used a rest k p) (cut_there limit used a (asked_of qtype rest) h p))
    (λ g. let p = ltb-false _ _ g in
    taken_by (asked_yes qtype a rest k) (taken_on limit qtype used a rest k p)
    (one_taken limit used a (asked_of qtype rest) _ (taken_are limit qtype (used + length (answer_octets a)) rest p))))
    (λ k. taken_by (asked_no qtype a rest k) (taken_skip limit qtype used a rest k) (taken_are limit qtype used rest h))

-- ---- the loop that writes the answers

-- the answers that are valid on interface i, from an offset of the table on, under a mask
abbrev pub answers_under : ℕ → List ℕ → ℕ → ℕ → List Answer
answers_under i table m p = map (answer_in table) (valid_on i (records_under table m p))

module _ (i : ℕ) (table : List ℕ) (m p : ℕ) where
  abbrev shown : List Masked → List Answer
  shown rs = map (answer_in table) (valid_on i rs)

  pub answers_on : (r : Record) → record_at table p ≡ Good r → is_valid m i ≡ true
      → answers_under i table m p ≡ answer_in table r ∷ answers_under i table m r.end
  unfolding valid_on
  answers_on r e v = ap shown (records_on table m p r e) ∙ rw v

  pub answers_off : (r : Record) → record_at table p ≡ Good r → is_valid m i ≡ false → answers_under i table m p ≡ answers_under i table m r.end
  unfolding valid_on
  answers_off r e v = ap shown (records_on table m p r e) ∙ rw v

  pub answers_mask : (l end : ℕ) → record_at table p ≡ Mask l end → answers_under i table m p ≡ answers_under i table l end
  answers_mask l end e = ap shown (records_mask table m p l end e)

  pub answers_end : record_at table p ≡ End → answers_under i table m p ≡ []
  unfolding valid_on
  answers_end e = ap shown (records_end table m p e)

-- The answers so far stand in the buffer, which was `before`, after the octets used; those that are still to be taken are the ones
-- that are taken of the rest, which the table holds from p on, under a mask that is valid here or not.
pub record Filling (before : List ℕ) (limit qtype i used : ℕ) (table : List ℕ) (at : ℕ) (out : List ℕ) (end count p : ℕ) (here : Bool) : Type 0 where
  pub mask : ℕ
  pub here_is : here ≡ is_valid mask i
  pub so_far : List Answer
  pub fits : used ≤ end
  pub inside : end ≤ limit
  pub end_is : end ≡ used + length (answers_octets so_far)
  pub out_is : out ≡ splice before used (answers_octets so_far)
  pub count_is : count ≡ length so_far
  pub taken : (taken_from limit qtype used (answers_in i table at)).answers ≡ so_far ++ (taken_from limit qtype end (answers_under i table mask p)).answers
  pub cut : (taken_from limit qtype used (answers_in i table at)).cut ≡ (taken_from limit qtype end (answers_under i table mask p)).cut

pub filling_begin : (before : List ℕ) (limit qtype i used : ℕ) (table : List ℕ) (at : ℕ) (here : Bool) → used ≤ limit → here ≡ is_valid everywhere i
    → Filling before limit qtype i used table at before used 0 at here
filling_begin before limit qtype i used table at here h e =
    record {
      mask = everywhere;
      here_is = e;
      so_far = [];
      fits = omega arith;
      inside = h;
      end_is = omega arith;
      out_is = sym (splice_none before used);
      count_is = refl;
      taken = refl;
      cut = refl;
    }

module _ {before : List ℕ} {limit qtype i used : ℕ} {table : List ℕ} {at : ℕ} {out : List ℕ} {end count p : ℕ} {here : Bool}
    (f : Filling before limit qtype i used table at out end count p here) (room : limit ≤ length before) where
  -- the buffer keeps its length, and there are no more answers than octets
  pub filling_length : length out ≡ length before
  filling_length =
      let h : used + length (answers_octets f.so_far) ≤ length before = omega (arith, f.inside, f.end_is) in
      ap length f.out_is ∙ length_splice before used (answers_octets f.so_far) h

  pub filling_count : count + used ≤ end
  filling_count = omega (arith, f.end_is, f.count_is, octets_count f.so_far)

  -- nothing more is taken
  filled : (c : Bool) → taken_from limit qtype end (answers_under i table f.mask p) ≡ record { answers = []; cut = c }
      → Filled (record { end = end; count = count; cut = c }) used before out (taken_from limit qtype used (answers_in i table at))
  filled c e =
      let all : (taken_from limit qtype used (answers_in i table at)).answers ≡ f.so_far =
      f.taken ∙ ap (λ (t : Taken). f.so_far ++ t.answers) e ∙ append-nil f.so_far in
      record {
        end = f.end_is ∙ ap (λ (l : List Answer). used + length (answers_octets l)) (sym all);
        count = f.count_is ∙ ap length (sym all);
        cut = sym (f.cut ∙ ap (λ (t : Taken). t.cut) e);
        written = f.out_is ∙ ap (λ (l : List Answer). splice before used (answers_octets l)) (sym all);
      }

  pub filled_end : record_at table p ≡ End
      → Filled (record { end = end; count = count; cut = false }) used before out (taken_from limit qtype used (answers_in i table at))
  filled_end e = filled false (ap (taken_from limit qtype end) (answers_end i table f.mask p e) ∙ taken_none limit qtype end)

  -- nothing is written: what is still to be taken stands from another offset on, under a mask
  moved : (m q : ℕ) (b : Bool) → b ≡ is_valid m i → taken_from limit qtype end (answers_under i table f.mask p) ≡ taken_from limit qtype end (answers_under i table m q)
      → Filling before limit qtype i used table at out end count q b
  moved m q b v e =
      record {
        mask = m;
        here_is = v;
        so_far = f.so_far;
        fits = f.fits;
        inside = f.inside;
        end_is = f.end_is;
        out_is = f.out_is;
        count_is = f.count_is;
        taken = f.taken ∙ ap (λ (t : Taken). f.so_far ++ t.answers) e;
        cut = f.cut ∙ ap (λ (t : Taken). t.cut) e;
      }

  -- a mask is that of the records after it
  pub filling_mask : (l q : ℕ) (b : Bool) → record_at table p ≡ Mask l q → b ≡ is_valid l i → Filling before limit qtype i used table at out end count q b
  filling_mask l q b e v = moved l q b v (ap (taken_from limit qtype end) (answers_mask i table f.mask p l q e))

  module _ (r : Record) (e : record_at table p ≡ Good r) where
    module _ (k : here and is_asked qtype r.rtype ≡ true) where
      asked : is_asked qtype r.rtype ≡ true
      asked = ((both here _).0 k).1

      turn : taken_from limit qtype end (answers_under i table f.mask p) ≡ taken_from limit qtype end (answer_in table r ∷ answers_under i table f.mask r.end)
      turn = ap (taken_from limit qtype end) (answers_on i table f.mask p r e (sym f.here_is ∙ ((both here _).0 k).0))

      pub filled_cut : limit < end + length (answer_octets (answer_in table r))
          → Filled (record { end = end; count = count; cut = true }) used before out (taken_from limit qtype used (answers_in i table at))
      filled_cut h = filled true (turn ∙ taken_cut limit qtype end (answer_in table r) (answers_under i table f.mask r.end) asked h)

      one_more : (y : List ℕ) → end + length (answer_octets (answer_in table r)) ≤ limit
          → y ≡ splice (mid_of end (length out - end) out) 0 (answer_octets (answer_in table r))
          → Filling before limit qtype i used table at (put_mid end (length out - end) out y) (end + length (answer_octets (answer_in table r))) (count + 1) r.end here
      one_more y h w =
          let a : Answer = answer_in table r in
          let xs : List ℕ = answers_octets f.so_far in
          let one = octets_of_one f.so_far a in
          let q = turn ∙ taken_on limit qtype end a (answers_under i table f.mask r.end) asked h in
          let g : end + length (answer_octets a) ≤ length before = omega arith in
          record {
            mask = f.mask;
            here_is = f.here_is;
            so_far = f.so_far ++ (a ∷ []);
            fits = omega (arith, f.fits);
            inside = h;
            end_is = omega (arith, f.end_is, ap length one, length-append xs (answer_octets a));
            out_is = part_after before xs (answer_octets a) out y used end f.end_is f.out_is g w ∙ ap (splice before used) (sym one);
            count_is = omega (arith, f.count_is, length-append f.so_far (a ∷ []));
            taken = f.taken ∙ ap (λ (t : Taken). f.so_far ++ t.answers) q ∙ sym (append_assoc f.so_far (a ∷ []) (taken_from limit qtype (end + length (answer_octets a)) (answers_under i table f.mask r.end)).answers);
            cut = f.cut ∙ ap (λ (t : Taken). t.cut) q;
          }

      -- the same as the code has it: the answer's data is the part o of the table
      pub filling_put : (o y : List ℕ) → o ≡ (answer_in table r).octets → end + (before_data + length o) ≤ limit
          → y ≡ splice (mid_of end (length out - end) out) 0 (answer_octets (record { rtype = r.rtype; octets = o }))
          → Filling before limit qtype i used table at (put_mid end (length out - end) out y) (end + (before_data + length o)) (count + 1) r.end here
      filling_put o y q h w =
          let n : end + length (answer_octets (answer_in table r)) ≡ end + (before_data + length o) = omega (arith, ap length q) in
          subst (λ (m : ℕ). Filling before limit qtype i used table at (put_mid end (length out - end) out y) m (count + 1) r.end here) n
          (one_more y (omega arith) (w ∙ ap (λ (x : List ℕ). splice (mid_of end (length out - end) out) 0 (answer_octets (record { rtype = r.rtype; octets = x }))) q))

    -- a record that is not valid here, or not asked for
    pub filling_skip : here and is_asked qtype r.rtype ≡ false → Filling before limit qtype i used table at out end count r.end here
    filling_skip k =
        moved f.mask r.end here f.here_is
        (split here
        (λ y. ap (taken_from limit qtype end) (answers_on i table f.mask p r e (sym f.here_is ∙ y))
        ∙ taken_skip limit qtype end (answer_in table r) (answers_under i table f.mask r.end) (rw y at k))
        (λ y. ap (taken_from limit qtype end) (answers_off i table f.mask p r e (sym f.here_is ∙ y))))

-- the walk over the table comes nearer to its end
pub nearer_record : (table : List ℕ) (p : ℕ) (r : Record) → record_at table p ≡ Good r → length table - r.end < length table - p
nearer_record table p r e = let i = read_is_inside table p (Good r) e in omega (arith, i.0, i.1)

pub nearer_mask : (table : List ℕ) (p l end : ℕ) → record_at table p ≡ Mask l end → length table - end < length table - p
nearer_mask table p l end e = let i = read_is_inside table p (Mask l end) e in omega (arith, i.0, i.1)

-- ---- the reply

-- octets written behind the first 12, and then the first 12
head_splice : (d xs ys : List ℕ) → length xs ≡ header_octets → header_octets + length ys ≤ length d → splice (splice d header_octets ys) 0 xs ≡ splice d 0 (xs ++ ys)
head_splice d xs ys l h =
    let n : length (xs ++ ys) ≡ header_octets + length ys = omega (arith, length-append xs ys) in
    splice_start (splice d header_octets ys) xs
    ∙ ap (λ (k : ℕ). xs ++ drop k (splice d header_octets ys)) l
    ∙ ap (λ (r : List ℕ). xs ++ r) (drop_splice d header_octets ys h)
    ∙ sym (append_assoc xs ys (drop (header_octets + length ys) d))
    ∙ ap (λ (k : ℕ). (xs ++ ys) ++ drop k d) (sym n)
    ∙ sym (splice_start d (xs ++ ys))

-- the octets of a reply are the header's, the question's and the answers'
pub reply_length : (id : ℕ) (c t : Bool) (question : List ℕ) (r : Taken)
    → length (reply_octets id c t question r) ≡ header_octets + length question + length (answers_octets r.answers)
unfolding reply_octets
reply_length id c t question r = omega (arith, length-append question (answers_octets r.answers))

module _ (out : List ℕ) (limit : ℕ) (head : ReplyHead) (question : List ℕ) (qtype : ℕ) (answers : List Answer) where
  pub reply_short : length out < limit → record { len = 0; octets = out } ≡ reply_written out limit head question qtype answers
  unfolding reply_written
  reply_short h = rw (lt-leb _ _ h)

  pub reply_no_room : limit ≤ length out → limit < header_octets + length question
      → record { len = 0; octets = out } ≡ reply_written out limit head question qtype answers
  unfolding reply_written
  reply_no_room g h = rw (le-leb _ _ g, lt-leb _ _ h)

  -- Written are the question, the answers behind it, and last the header, field by field.
  pub reply_written_lem : limit ≤ length out → header_octets + length question ≤ limit
      → (r : Answers) (flags : List ℕ) {b0 b1 b2 b3 b4 b5 b6 : List ℕ}
      → b0 ≡ put out header_octets question
      → Filled r (header_octets + length question) b0 b1 (taken_of limit qtype question answers)
      → flags ≡ reply_flags head.conflict r.cut head.tentative
      → b2 ≡ put b1 0 (big_octets head.id)
      → b3 ≡ put b2 2 flags
      → b4 ≡ put b3 4 (0 ∷ 1 ∷ [])
      → b5 ≡ put b4 6 (big_octets r.count)
      → b6 ≡ put b5 8 (0 ∷ 0 ∷ 0 ∷ 0 ∷ [])
      → record { len = r.end; octets = b6 } ≡ reply_written out limit head question qtype answers
  unfolding reply_written reply_octets
  reply_written_lem g h r flags {b0} {b1} {b2} {b3} {b4} {b5} {b6} e0 f e e2 e3 e4 e5 e6 =
      let t : Taken = taken_of limit qtype question answers in
      let xs : List ℕ = answers_octets t.answers in
      let whole : List ℕ = reply_to limit head question qtype answers in
      let size : length whole ≡ header_octets + length question + length xs = reply_length head.id head.conflict head.tentative question t in
      let within : header_octets + length question + length xs ≤ limit = (taken_are limit qtype (header_octets + length question) answers h).within in
      let n = length-append question xs in
      let p0 : b0 ≡ splice out header_octets question = e0 ∙ put_in out header_octets question (omega arith) in
      let p1 : b1 ≡ splice out header_octets (question ++ xs) = f.written ∙ ap (λ (b : List ℕ). splice b (header_octets + length question) xs) p0 ∙ splice_splice out header_octets question xs (omega arith) in
      let m : length b1 ≡ length out = ap length p1 ∙ length_splice out header_octets (question ++ xs) (omega arith) in
      let w2 = first b1 (big_octets head.id) e2 (omega arith) in
      let w3 = next (reply_flags head.conflict r.cut head.tentative) 2 w2 (e3 ∙ ap (put b2 2) e) refl (omega arith) in
      let w4 = next (0 ∷ 1 ∷ []) 4 w3 e4 refl (omega arith) in
      let w5 = next (big_octets r.count) 6 w4 e5 refl (omega arith) in
      let w6 = next (0 ∷ 0 ∷ 0 ∷ 0 ∷ []) 8 w5 e6 refl (omega arith) in
      let head12 : Bool → ℕ → List ℕ = λ c k. big_octets head.id ++ reply_flags head.conflict c head.tentative ++ (0 ∷ 1 ∷ []) ++ big_octets k ++ (0 ∷ 0 ∷ 0 ∷ 0 ∷ []) in
      let p6 : b6 ≡ splice out 0 whole =
      w6.is
      ∙ ap (λ (b : List ℕ). splice b 0 (head12 r.cut r.count)) p1
      ∙ ap (λ (c : Bool). splice (splice out header_octets (question ++ xs)) 0 (head12 c r.count)) f.cut
      ∙ ap (λ (k : ℕ). splice (splice out header_octets (question ++ xs)) 0 (head12 t.cut k)) f.count
      ∙ head_splice out (head12 t.cut (length t.answers)) (question ++ xs) refl (omega arith) in
      rw (le-leb _ _ g, le-leb _ _ h)
      (ap (λ (k : ℕ). record { len = k; octets = b6 }) (f.end ∙ sym size)
      ∙ ap (λ (b : List ℕ). record { len = length whole; octets = b }) (p6 ∙ sym (put_in out 0 whole (omega arith))))
