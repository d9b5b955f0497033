-- Set-up and start are the plain ones of specs/Whole.antt, and nothing else is. They leave a host with four interfaces of eight names.
use Rattle.std.proofs.Common.{ℕ, zero, suc, ◌+◌, ◌<◌, ◌≡◌, refl, sym, ap, ◌∙◌, subst, ◌⊎◌, inl, inr, ⊎_elim, List, [], ◌∷◌, arith, length, get_or, ltb, ltb-true, ltb-false, leb-false}
use Rattle.octets.proofs.Tests.{split}
use Rattle.octets.specs.Octets.{Octets}
use Rattle.octets.specs.PlainAddresses.{nothing}
use Rattle.octets.specs.declared.Setting.{Setting}
use Rattle.refusal.specs.Checks.{Verdict, refused as refused_by, passed, verdict}
use Rattle.name_table.specs.Check.{Held, good, no_name, check_table, names_in}
use Rattle.name_table.specs.Entries.{Entry, unique as unique_kind, shared as shared_kind, resource, data_octets, located}
use Rattle.name_table.proofs.Held.{few_held}
use Rattle.name_table.proofs.Meaning.{good_iff}
use Rattle.names.specs.Names.{encode}
use Rattle.host.specs.State.{setting_of, state_of, due_at}
use Rattle.host.specs.Outcomes.{ready, shared as shared_name, Done}
use Rattle.host.specs.Laws.{Accepted}
use Rattle.host.specs.SetUp.{set_up_checks, set_up_by, set_up}
use Rattle.host.specs.Start.{name_checks, start}
use Rattle.host.specs.ExactlyWhen.{CalledWell}
use Rattle.host.specs.declared.NameState.{NameState}
use Rattle.host.specs.declared.NameState.TheVariants.{Off, Verifying, Unique, Defending, Stopped, Shared}
use Rattle.host.specs.declared.Host.{Host}
use Rattle.host.proofs.Called.{called_is}
use Rattle.host.proofs.Accepted.{start_checked}
use Rattle.host.proofs.Conditions.{has_interval}
use Rattle.host.proofs.Laws.{set_up_refused, start_refused}
use Rattle.witness.specs.Refusals.{start_cases}
use Rattle.witness.specs.States.{Interval, Place, Becomes, Asks, check_of, host_of, TriedAgain, UniqueStarts, SharedStarts}
use Rattle.witness.specs.Whole.{Full, PlainSetUp, PlainStart}
use Rattle.witness.proofs.Refusals.{set_up_refused_exactly, start_refused_exactly}
use Rattle.witness.proofs.States.{unique_starts, shared_starts}
use Rattle.witness.proofs.Whole.{host_full, moves_full, becomes_one, asks_one, not_refused, same_if_accepted, full_if_accepted, refused_exactly, place_in}

-- ---- set-up

module _ (table : List ℕ) (s t u v : Setting) (time id : ℕ) where
  abbrev given : List Setting
  given = s ∷ t ∷ u ∷ v ∷ []

  sets_up : Accepted (set_up table given time id)
      → set_up table given time id ≡ record { host = host_of s t u v time; result = ready; to = nothing; octets = [] }
  unfolding set_up
  sets_up = go (verdict (set_up_checks table given time))
    where
      go : (w : Verdict) → Accepted (set_up_by w given time)
          → set_up_by w given time ≡ record { host = host_of s t u v time; result = ready; to = nothing; octets = [] }
      go (refused_by r) a = absurd (a r refl)
      go passed a = refl

  -- What set-up gives is plain,
  pub set_up_is_plain : PlainSetUp table s t u v time (set_up table given time id)
  set_up_is_plain =
      record {
        refusals = refused_exactly _ _ _ _ (set_up_refused_exactly table given time id) (set_up_refused table given time id);
        accepted = sets_up;
      }

  -- and nothing else is.
  pub plain_is_set_up : (d : Done) → PlainSetUp table s t u v time d → d ≡ set_up table given time id
  plain_is_set_up d p =
      same_if_accepted _ _ _ d (set_up table given time id) p.refusals set_up_is_plain.refusals (λ a b. p.accepted a ∙ sym (sets_up b))

  -- The host has four interfaces of eight names.
  pub set_up_full : Full (set_up table given time id).host
  set_up_full =
      full_if_accepted _ _ _ (set_up table given time id) (host_full _ _ _ _ 0) set_up_is_plain.refusals
      (λ a. subst (λ (d : Done). Full d.host) (sym (sets_up a)) (host_full s t u v time))

-- ---- the kind of a name

kind_at : (o : ℕ) (es : List Entry) (k : ℕ) → k < length (located o es)
    → ((get_or (located o es) k no_name).kind ≡ 1) ⊎ ((get_or (located o es) k no_name).kind ≡ 2)
kind_at o [] k l = absurd (omega arith)
kind_at o (Entry.name unique_kind n ∷ es) zero l = inl refl
kind_at o (Entry.name shared_kind n ∷ es) zero l = inr refl
kind_at o (Entry.name j n ∷ es) (suc k) l = kind_at (o + (4 + length (encode n))) es k (omega arith)
kind_at o (resource d ∷ es) k l = kind_at (o + (4 + length (data_octets d))) es k l
kind_at o (Entry.mask m ∷ es) k l = kind_at (o + 5) es k l

-- a name of a good table is of kind 1 or 2
kind_of : (table : List ℕ) (names : List Held) (k : ℕ) → Octets table → check_table table ≡ good names → k < length names
    → ((get_or names k no_name).kind ≡ 1) ⊎ ((get_or names k no_name).kind ≡ 2)
kind_of table names k o g l =
    let e = (good_iff table names o).0 g in
    subst (λ (hs : List Held). ((get_or hs k no_name).kind ≡ 1) ⊎ ((get_or hs k no_name).kind ≡ 2)) (sym e.1)
    (kind_at 0 e.0.entries k (subst (λ (hs : List Held). k < length hs) e.1 l))

-- ---- start

module _ (h : Host) (table : List ℕ) (i k time id : ℕ) (out : List ℕ) where
  abbrev done : Done
  done = start h table i k time id out

  abbrev names : List Held
  names = names_in (check_table table)

  good_names : Accepted done → check_table table ≡ good names
  good_names a = (called_is h table i time out (name_checks h table i k time) (start_checked h table i k time id out a)).good_table

  -- what an accepted start has been given
  begun : Accepted done → (names : List Held) → check_table table ≡ good names → CalledWell h table i time out names × (k < length names)
  begun a names g =
      let c = start_checked h table i k time id out a in
      subst (λ (hs : List Held). CalledWell h table i time out hs × (k < length hs)) (ap names_in g)
      (called_is h table i time out (name_checks h table i k time) c, leb-false _ _ c.1.1.1.1.0)

  -- a stopped name whose start is accepted is not too soon
  again : {taken : Type 0} (until : ℕ) → Accepted done → TriedAgain h out until time done taken → taken
  again until a r =
      split (ltb time until) (λ t. not_refused h out 21 done a (r.too_soon (ltb-true _ _ t))) (λ t. r.then (ltb-false _ _ t))

  module _ (o : Octets table) (f : Full h) where
    place : Accepted done → (names : List Held) → check_table table ≡ good names → Place h i k
    place a names g =
        let b = begun a names g in
        place_in h i k f b.0.interface (omega (arith, b.1, few_held table names o g))

    sends : Accepted done → (names : List Held) → check_table table ≡ good names → (get_or names k no_name).kind ≡ 1 → (n : ℕ) → Interval h i n
        → Asks h i k (Verifying 1 id (due_at (time + n))) time (check_of id (get_or names k no_name).octets) out done
    sends a names g e n v =
        let b = begun a names g in
        go (state_of h i k) (unique_starts h table names i k time id out b.0 b.1 n o (place a names g) v e)
      where
        go : (s : NameState) → UniqueStarts h i k n time id (get_or names k no_name).octets out s done
            → Asks h i k (Verifying 1 id (due_at (time + n))) time (check_of id (get_or names k no_name).octets) out done
        go Off r = r
        go (Verifying x own timer) r = not_refused h out 19 done a r
        go Unique r = not_refused h out 19 done a r
        go (Defending own qtype class timer) r = not_refused h out 19 done a r
        go (Stopped until) r = again until a r
        go Shared r = not_refused h out 19 done a r

    shares : Accepted done → (names : List Held) → check_table table ≡ good names → (get_or names k no_name).kind ≡ 2
        → Becomes h i k Shared time out (shared_name k) done
    shares a names g e =
        let b = begun a names g in
        go (state_of h i k) (shared_starts h table names i k time id out b.0 b.1 (place a names g) e)
      where
        go : (s : NameState) → SharedStarts h i k time out s done → Becomes h i k Shared time out (shared_name k) done
        go Off r = r
        go (Verifying x own timer) r = not_refused h out 19 done a r
        go Unique r = not_refused h out 19 done a r
        go (Defending own qtype class timer) r = not_refused h out 19 done a r
        go (Stopped until) r = again until a r
        go Shared r = not_refused h out 19 done a r

    -- What start gives is plain,
    pub start_is_plain : PlainStart h table i k time id out (start h table i k time id out)
    start_is_plain =
        record {
          refusals = refused_exactly _ _ _ _ (start_refused_exactly h table i k time id out) (start_refused h table i k time id out);
          unique_name = sends;
          shared_name = shares;
        }

    -- and nothing else is.
    pub plain_is_start : (d : Done) → PlainStart h table i k time id out d → d ≡ start h table i k time id out
    plain_is_start d p = same_if_accepted h out (start_cases h table i k time out) d done p.refusals start_is_plain.refusals same
      where
        same : Accepted d → Accepted done → d ≡ done
        same x a =
            let g = good_names a in
            let n = has_interval (setting_of h i) in
            ⊎_elim
            (λ e. asks_one _ _ _ _ _ _ _ d done (p.unique_name x names g e n.0 n.1) (sends a names g e n.0 n.1))
            (λ e. becomes_one _ _ _ _ _ _ _ d done (p.shared_name x names g e) (shares a names g e))
            (kind_of table names k o g (begun a names g).1)

    -- A full host stays full.
    pub start_full : Full (start h table i k time id out).host
    start_full =
        full_if_accepted h out (start_cases h table i k time out) done f start_is_plain.refusals
        (λ a.
        let g = good_names a in
        let n = has_interval (setting_of h i) in
        ⊎_elim (λ e. moves_full h i k _ time done f (sends a names g e n.0 n.1).moves) (λ e. moves_full h i k _ time done f (shares a names g e).moves)
        (kind_of table names k o g (begun a names g).1))
