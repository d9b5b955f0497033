-- Laws of the lines of a file.
use Rattle.std.proofs.Common.{ℕ, suc, zero, ◌+◌, ◌-◌, ◌<◌, ◌≤◌, ◌≡◌, refl, sym, ap, ◌∙◌, List, [], ◌∷◌, ◌++◌, arith, length, take, drop, Ok, Err, Option, Result, None, Some}
use Rattle.std.proofs.KnownBytes.{Appends-trans, Keeps-refl, append_known-grown}
use Rattle.std.proofs.lemmas.List.{append-nil, append_assoc}
use Rattle.std.specs.Io.KnownBytes.{Appends, append_known}
use Rattle.std.specs.Result.{OnOk}
use Rattle.std.specs.List.{concat}
use Rattle.std.proofs.lemmas.Grind.{common_steps}
use Rattle.std.proofs.lemmas.List.Folds.{concat-append}
use Rattle.host.specs.declared.Host.{Host}
use Rattle.run_calls.specs.Calls.{entry_line, host_after, lookups_after}
use Rattle.run_calls.specs.Entries.{entry_at, entry_head, lent_by}
use Rattle.run_calls.specs.Pieces.{end_line}
use Rattle.run_calls.specs.Run.{body_of, lines_from, most_room}
use Rattle.run_calls.specs.declared.entry.Entry.{Entry}
use Rattle.run_calls.specs.declared.entry.Why.{Why}
use Rattle.run_calls.specs.declared.lookups.Lookups.{Lookups}

-- A writer, where what it holds is known, and after it a text: before anything is written,
pub told_none : (a : Option (List ℕ)) (text : List ℕ) → text ≡ [] → Appends a (append_known a text) []
told_none None text e = tt
told_none (Some xs) text e = ap (λ (zs : List ℕ). xs ++ zs) e

-- with more in the text,
pub told_more : (a b : Option (List ℕ)) (text done more new : List ℕ)
    → Appends a (append_known b text) done → new ≡ text ++ more
    → Appends a (append_known b new) (done ++ more)
told_more a b text done more new p e =
    let known : Option (List ℕ) = append_known b text in
    Appends-trans a known (append_known b new) done more p
    (append_known-grown known b text new more (Keeps-refl known) e)

-- and once the text is written, if it is
pub told_all : {X E : Type 0} (r : Result X E) (a b c : Option (List ℕ))
    (text bytes done whole : List ℕ)
    → Appends a (append_known b text) done → bytes ≡ text → done ≡ whole
    → OnOk r (Appends b c bytes) → OnOk r (Appends a c whole)
told_all (Err e) a b c text bytes done whole p s t q = tt
told_all (Ok x) None b c text bytes done whole p s t q = tt
told_all (Ok x) (Some xs) None c text bytes done whole p s t q = absurd p
told_all (Ok x) (Some xs) (Some ys) None text bytes done whole p s t q = absurd q
told_all (Ok x) (Some xs) (Some ys) (Some zs) text bytes done whole p s t q =
    q ∙ ap (λ (ws : List ℕ). ys ++ ws) s ∙ p ∙ ap (λ (ws : List ℕ). xs ++ ws) t

-- the octets after an entry's head
pub body_is : (front s : List ℕ) (e : Entry) → front ≡ take e.len s
    → take (length front - entry_head) (drop entry_head front) ≡ body_of e s
body_is front s e h = rw (← h) (grind (arith, common_steps))

module _ (size n : ℕ) (table : List ℕ) (h : Host) (l : Lookups) where
  -- at the end of the file
  pub lines_done : (s : List ℕ) (more : ℕ) → length s ≡ 0
      → lines_from more size n table h l s ≡ []
  unfolding lines_from
  lines_done s zero e = refl
  lines_done [] (suc more) e = refl
  lines_done (c ∷ s) (suc more) e = absurd (omega arith)

  -- where no entry can be read
  pub lines_end : (s : List ℕ) (why : Why) → 0 < length s → n + length s < size + 1
      → entry_at s ≡ Err why
      → lines_from (size - n) size n table h l s ≡ end_line (size - length s) (Err why)
  unfolding lines_from
  lines_end [] why p q e = absurd (omega arith)
  lines_end (c ∷ s) why p q e =
      let k : size - n ≡ suc (size - (n + 1)) = omega arith in
      rw (k, e)

  -- an entry, and those after it
  pub lines_more : (s : List ℕ) (e : Entry) → 0 < length s → n + length s < size + 1
      → entry_at s ≡ Ok e
      → lines_from (size - n) size n table h l s
      ≡ entry_line n e.kind h l table (body_of e s) most_room
      ++ lines_from (size - (n + 1)) size (n + 1) (lent_by e.kind table (body_of e s))
      (host_after e.kind h table (body_of e s) most_room)
      (lookups_after e.kind l (host_after e.kind h table (body_of e s) most_room) (body_of e s)
      most_room)
      (drop e.len s)
  unfolding lines_from
  lines_more [] e p q t = absurd (omega arith)
  lines_more (c ∷ s) e p q t =
      let k : size - n ≡ suc (size - (n + 1)) = omega arith in
      rw (k, t)

  module _ (text whole s : List ℕ) (j : n + length s ≤ size)
      (so_far : whole ≡ text ++ concat (lines_from (size - n) size n table h l s)) where
    -- the file ends
    pub finished : length s ≡ 0 → text ≡ whole
    finished e =
        sym (so_far ∙ ap (λ (xs : List (List ℕ)). text ++ concat xs) (lines_done s (size - n) e)
        ∙ append-nil text)

    -- no entry can be read
    pub ended : (new : List ℕ) (why : Why) → 0 < length s → entry_at s ≡ Err why
        → new ≡ text ++ concat (end_line (size - length s) (Err why)) → new ≡ whole
    ended new why p e t =
        t ∙ sym (so_far
        ∙ ap (λ (xs : List (List ℕ)). text ++ concat xs) (lines_end s why p (omega arith) e))

    -- an entry is taken
    pub taken_so : (new : List ℕ) (e : Entry) (body rest table₁ : List ℕ) (h₁ : Host) (l₁ : Lookups)
        → 0 < length s → entry_at s ≡ Ok e → body ≡ body_of e s → rest ≡ drop e.len s
        → table₁ ≡ lent_by e.kind table body → h₁ ≡ host_after e.kind h table body most_room
        → l₁ ≡ lookups_after e.kind l h₁ body most_room
        → new ≡ text ++ concat (entry_line n e.kind h l table body most_room)
        → whole ≡ new ++ concat (lines_from (size - (n + 1)) size (n + 1) table₁ h₁ l₁ rest)
    taken_so new e body rest table₁ h₁ l₁ p q b r t₁ k₁ m₁ t =
        let xs : List (List ℕ) = entry_line n e.kind h l table body most_room in
        let ys : List (List ℕ) = lines_from (size - (n + 1)) size (n + 1) table₁ h₁ l₁ rest in
        let f : lines_from (size - n) size n table h l s ≡ xs ++ ys =
        rw (m₁, k₁, t₁, b, r) (lines_more s e p (omega arith) q) in
        so_far ∙ ap (λ (zs : List (List ℕ)). text ++ concat zs) f
        ∙ ap (λ (zs : List ℕ). text ++ zs) (concat-append xs ys)
        ∙ sym (append_assoc text (concat xs) (concat ys))
        ∙ ap (λ (zs : List ℕ). zs ++ concat ys) (sym t)
