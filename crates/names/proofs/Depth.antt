-- How deep a name can be: at most 127 labels and 16 pointers, and so at most 144 turns of its reader.
use Rattle.std.proofs.Common.{Some, ℕ, suc, zero, ◌+◌, ◌≤◌, ◌≡◌, refl, sym, ap, ◌∙◌, List, arith, length}
use Rattle.octets.specs.Octets.{Octets, octet_at}
use Rattle.names.specs.Bounds.{longest_name, most_labels}
use Rattle.names.specs.Names.{Labels, IsName, encode}
use Rattle.names.specs.Readings.{labels, ReadingAt}
use Rattle.names.specs.declared.Name.{Name}
use Rattle.names.specs.declared.Walk.{Walk}
use Rattle.names.specs.declared.Turn.{Turn}
use Rattle.names.specs.declared.Turn.TheVariants.{More, End, Wrong}
use Rattle.names.specs.declared.RecordName.{RecordName}
use Rattle.names.specs.NameWalk.{name_from, name_at}
use Rattle.names.specs.RecordNameWalk.{target, at_root, past_label, followed, turn_at, record_name_from, walk_at, turns, record_name_at, expanded_from, expanded_at}
use Rattle.names.specs.Depth.{NameDepth, Depth, turns_after, turns_from, most_turns}
use Rattle.names.proofs.NameWalk.{name_fuel, name_fits, name_counted}
use Rattle.names.proofs.Names.{encode_labels, same_labels}
use Rattle.names.proofs.Turns.{Met, root, one, jump, wrong, met, turn_root, turn_label, turn_jump, takes_one, takes_none, after_turn}
use Rattle.names.proofs.RecordNameWalk.{Within, within_start, left, onward, walk_fuel, expand_fuel, record_name_fits}
use Rattle.names.proofs.Readings.{label_steps_lem, reading_is_name, reads_a_reading, expands}

depth_of : (len count : ℕ) → count + count + 1 ≤ len → len ≤ longest_name → NameDepth len count
depth_of len count h g = record { octets = omega arith; short = g; few = omega arith }

-- Any name without pointers that can be read has at most 127 labels.
pub name_depth : (s : List ℕ) (at : ℕ) (r : Name) → name_at s at ≡ Some r → NameDepth r.len r.labels
name_depth s at r e = depth_of r.len r.labels (name_counted s at r e) (name_fits s at r e).0

-- Any record's name that can be read has at most 127 labels and 16 pointers,
pub depth : (s : List ℕ) (at : ℕ) (r : RecordName) → record_name_at s at ≡ Some r → Depth r
depth s at r e =
    let f = record_name_fits s at r e in
    record { name = depth_of r.len r.labels f.counted f.short; few_pointers = f.few }

-- as its reading in plain words says too.
pub reading_depth : (s : List ℕ) (at : ℕ) (r : RecordName) → ReadingAt s at r → Depth r
reading_depth s at r f =
    let n : Labels = labels f.steps in
    let m : r.labels ≡ length n = f.labels_are ∙ label_steps_lem f.steps in
    let h : r.labels + r.labels + 1 ≤ r.len = omega (arith, encode_labels n (reading_is_name s at r f).labels, f.len_is) in
    record { name = depth_of r.len r.labels h f.short; few_pointers = f.few }

-- The labels are as many as those of the name to which it expands.
pub expanded_labels : (s : List ℕ) (at : ℕ) (r : RecordName) (n : Labels) → Octets s → record_name_at s at ≡ Some r → IsName n
    → expanded_at s at ≡ encode n → r.labels ≡ length n
expanded_labels s at r n o e h g =
    let f = (reads_a_reading s at r o).0 e in
    let m : labels f.steps ≡ n =
    same_labels (labels f.steps) n (reading_is_name s at r f).labels h.labels (sym (expands s at r o f) ∙ g) in
    f.labels_are ∙ label_steps_lem f.steps ∙ ap length m

-- ---- turns

-- A reading, good or not, takes no more turns than are left of its walk.
turns_left : (k : ℕ) (s : List ℕ) (w : Walk) → Within w → turns_from k s w ≤ left w
unfolding turns_from
turns_left zero s w b = omega arith
turns_left (suc k) s w b = go (turn_at s w) refl (turns_left k s)
  where
    go : (t : Turn) → turn_at s w ≡ t → ((v : Walk) → Within v → turns_from k s v ≤ left v) → 1 + turns_after t (turns_from k s) ≤ left w
    go (More v) e i =
        let o = onward s w v b e in
        omega (arith, i v o.within, o.nearer)
    go (End r) e i = omega arith
    go Wrong e i = omega arith

-- It takes no more than it may,
pub given_turns : (k : ℕ) (s : List ℕ) (w : Walk) → turns_from k s w ≤ k
unfolding turns_from
given_turns zero s w = omega arith
given_turns (suc k) s w = go (turn_at s w) (given_turns k s)
  where
    go : (t : Turn) → ((v : Walk) → turns_from k s v ≤ k) → 1 + turns_after t (turns_from k s) ≤ suc k
    go (More v) i = omega (arith, i v)
    go (End r) i = omega arith
    go Wrong i = omega arith

-- and at most 127 + 16 + 1.
pub few_turns : (k : ℕ) (s : List ℕ) (at : ℕ) → turns_from k s (walk_at at) ≤ most_turns
few_turns k s at = omega (arith, turns_left k s (walk_at at) (within_start at))

-- So from these on any number of turns gives the same reading, and the same expanded name;
pub enough_turns : (k : ℕ) (s : List ℕ) (at : ℕ) → most_turns ≤ k → record_name_from k s (walk_at at) ≡ record_name_at s at
enough_turns k s at h =
    let b = within_start at in
    walk_fuel k s (walk_at at) b (omega arith) ∙ sym (walk_fuel turns s (walk_at at) b (omega arith))

pub enough_expanded : (k : ℕ) (s : List ℕ) (at : ℕ) → most_turns ≤ k → expanded_from k s (walk_at at) ≡ expanded_from turns s (walk_at at)
enough_expanded k s at h =
    let b = within_start at in
    expand_fuel k s (walk_at at) b (omega arith) ∙ sym (expand_fuel turns s (walk_at at) b (omega arith))

-- without pointers it is so from 127 + 1 on.
pub enough_name : (k : ℕ) (s : List ℕ) (at : ℕ) → most_labels + 1 ≤ k → name_from k s at 0 ≡ name_at s at
enough_name k s at h = name_fuel k longest_name s at 0 (omega arith) (omega arith) (omega arith)

-- from a walk on: its labels, its pointers and the last turn
turns_from_lem : (k : ℕ) (s : List ℕ) (w : Walk) (r : RecordName) → record_name_from k s w ≡ Some r
    → w.pointers + turns_from k s w ≡ r.labels + r.pointers + 1
unfolding record_name_from turns_from
turns_from_lem zero s w r e = absurd (let z : ◌≡◌ {A = ℕ} 0 1 = cc in omega arith)
turns_from_lem (suc k) s w r e = go (met s w) (λ v q. turns_from_lem k s v q)
  where
    go : Met s w
        → ((v : Walk) (q : RecordName) → record_name_from k s v ≡ Some q → v.pointers + turns_from k s v ≡ q.labels + q.pointers + 1)
        → w.pointers + turns_from (suc k) s w ≡ r.labels + r.pointers + 1
    go (wrong q) i = absurd (let z : ◌≡◌ {A = ℕ} 0 1 = cc in omega arith)
    go (root h g) i =
        let t = turn_root s w h g in
        let f : Some (at_root w) ≡ Some r = rw t at e in
        let q : at_root w ≡ r = cc in
        rw t (omega (arith, ap (λ (x : RecordName). x.labels) q, ap (λ (x : RecordName). x.pointers) q))
    go (one h g u v) i =
        let c : ℕ = octet_at s w.at in
        let t = turn_label s w h g u v in
        let q = after_turn k s w (past_label w c) r e t in
        rw t (omega (arith, i (past_label w c) q.fewer q.is, q.labels_are, q.pointers_are, takes_one w c))
    go (jump h g u v m) i =
        let to : ℕ = target s w.at in
        let t = turn_jump s w h g u v m in
        let q = after_turn k s w (followed w to) r e t in
        rw t (omega (arith, i (followed w to) q.fewer q.is, q.labels_are, q.pointers_are, takes_none w to))

-- A good reading takes a turn for each label and each pointer, and the last one.
pub good_turns : (s : List ℕ) (at : ℕ) (r : RecordName) → record_name_at s at ≡ Some r
    → turns_from turns s (walk_at at) ≡ r.labels + r.pointers + 1
good_turns s at r e = omega (arith, turns_from_lem turns s (walk_at at) r e)
