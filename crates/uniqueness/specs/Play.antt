-- A link played by computation: each call of a list is made, and the copies that it sends are delivered in the order in which they
-- were sent, each receive with the same port, ID and buffer. Whether the list keeps the rules is a test, made with one probe.
use Rattle.std.specs.Prelude.{ℕ, zero, suc, ◌+◌, List, [], ◌∷◌, ◌++◌, Bool, true, false, cond, not, ltb, leb, eqb}
use Rattle.host.specs.Bounds.{latest as latest_time}
use Rattle.host.specs.declared.Host.{Host}
use Rattle.uniqueness.specs.Link.{Link, Request, starts, ticks, Call, Datagram, Receipt, Moment, Observed, off, verifying, owning, stopped, other, sort_of, datagrams, update, is_refused, after, result, received, Probe, observed}

abbrev pub is_empty : List Datagram → Bool
is_empty [] = true
is_empty (p ∷ ps) = false

abbrev pub is_verifying : Observed → Bool
is_verifying off = false
is_verifying verifying = true
is_verifying owning = false
is_verifying stopped = false
is_verifying other = false

-- a host is among those started
unfoldable pub is_among : ℕ → List ℕ → Bool
is_among h [] = false
is_among h (k ∷ ks) = cond (eqb h k) true (is_among h ks)

-- more than the copies that a call on a link of three hosts causes
abbrev pub deliveries : ℕ
deliveries = 16

-- the hosts right after a call, and what it sends
abbrev pub called : Link → Moment → Call → ℕ → Host
called L m c = update m.hosts c.host (result L m.hosts c).host

abbrev pub sending : Link → Moment → Call → List Datagram
sending L m c = datagrams L c.host (result L m.hosts c)

-- the rules for a call that a list may be let off from, as tests
pub record Rules : Type 0 where
  pub forward : Moment → Call → Bool
  pub due : Moment → Call → Bool
  pub start : Moment → Call → Bool

module _ (L : Link) (x : Receipt) where
  -- the hosts after at most n deliveries, and the copies that are then left
  unfoldable pub deliver : ℕ → ℕ → (ℕ → Host) → List Datagram → ℕ → Host
  deliver zero time hosts ps = hosts
  deliver (suc n) time hosts [] = hosts
  deliver (suc n) time hosts (p ∷ ps) =
      deliver n time (update hosts p.receiver (received L time (hosts p.receiver) p x).host)
      (datagrams L p.receiver (received L time (hosts p.receiver) p x) ++ ps)

  unfoldable pub undelivered : ℕ → ℕ → (ℕ → Host) → List Datagram → List Datagram
  undelivered zero time hosts ps = ps
  undelivered (suc n) time hosts [] = []
  undelivered (suc n) time hosts (p ∷ ps) =
      undelivered n time (update hosts p.receiver (received L time (hosts p.receiver) p x).host)
      (datagrams L p.receiver (received L time (hosts p.receiver) p x) ++ ps)

  unfoldable pub play : Moment → Call → Moment
  play m c =
      after m c (sort_of (result L m.hosts c)) (deliver deliveries c.time (called L m c) (sending L m c))

  unfoldable pub plays : Moment → List Call → Moment
  plays m [] = m
  plays m (c ∷ cs) = plays (play m c) cs

  module _ (p : Probe L) where
    -- at a time, each host below n that is verifying sent its last query at most so long ago
    unfoldable pub in_time : ℕ → ℕ → Moment → ℕ → Bool
    in_time long zero m time = true
    in_time long (suc n) m time =
        cond (cond (is_verifying (observed L m n p)) (leb time (m.queried n + long)) true) (in_time long n m time) false

    -- an accepted start is of the name, and the host's first
    abbrev pub may_start : Moment → ℕ → Request → Bool → Bool
    may_start m h (starts name) false = cond (eqb name (L.station h).name) (not (is_among h m.started)) false
    may_start m h (starts name) true = true
    may_start m h ticks b = true

    abbrev pub the_rules : Rules
    the_rules = record {
      forward = λ m c. leb m.time c.time;
      due = λ m c. in_time L.interval L.count m c.time;
      start = λ m c. may_start m c.host c.request (is_refused (sort_of (result L m.hosts c)));
    }

  -- the call is of a host of the link and within the clock's range, keeps the rules, and all that it sends is delivered
  unfoldable pub keeps_rules : Rules → Moment → Call → Bool
  keeps_rules R m c =
      cond (ltb c.host L.count)
      (cond (leb c.time latest_time)
      (cond (R.forward m c)
      (cond (R.due m c)
      (cond (R.start m c)
      (is_empty (undelivered deliveries c.time (called L m c) (sending L m c)))
      false)
      false)
      false)
      false)
      false

  unfoldable pub all_keep : Rules → Moment → List Call → Bool
  all_keep R m [] = true
  all_keep R m (c ∷ cs) = cond (keeps_rules R m c) (all_keep R (play m c) cs) false
