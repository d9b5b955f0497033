-- What the reader of a name without pointers means, in the plain words of specs/Names.antt.
use Rattle.std.proofs.Common.{None, Option, Some, ℕ, suc, zero, ◌+◌, ◌<◌, ◌≤◌, min, ◌≡◌, refl, sym, ap, ◌∙◌, subst, List, [], ◌∷◌, ◌++◌, append_assoc, append-nil, ◌↔◌, ◌⊎◌, inl, inr, arith, length, take, drop, length-append, length-drop, length-take, take-append-drop, take_at, drop_at, drop-drop, length-take-le}
use Rattle.octets.specs.Octets.{Octets, octet_at}
use Rattle.octets.proofs.Octets.{octets_append, octets_drop, octets_take}
use Rattle.octets.proofs.Readers.{finds_none}
use Rattle.names.specs.Bounds.{longest_label, longest_name}
use Rattle.names.specs.Names.{Labels, AreLabels, encode, IsName, NameAt, PlainReadingAt}
use Rattle.names.specs.declared.Name.{Name}
use Rattle.names.specs.NameWalk.{more_labels, name_from, name_at}
use Rattle.names.proofs.Lists.{stand_drop, from_here, there, here, behind, past, same_run}
use Rattle.names.proofs.NameWalk.{Place, over, root, label, none, long, place, at_over, at_root_lem, at_none, at_long, at_label, without}

-- a name has at least one octet, and two for each label
pub encode_some : (n : Labels) → 1 ≤ length (encode n)
encode_some [] = omega arith
encode_some (l ∷ n) = omega arith

pub encode_labels : (n : Labels) → AreLabels n → length n + length n + 1 ≤ length (encode n)
encode_labels [] a = omega arith
encode_labels (l ∷ n) a = omega (arith, a.0.some, encode_labels n a.1, length-append l (encode n))

-- the octets of a name are octets
labels_octets : (n : Labels) → AreLabels n → Octets (encode n)
labels_octets [] a = (omega arith, tt)
labels_octets (l ∷ n) a = (omega (arith, a.0.short), octets_append l (encode n) a.0.octets (labels_octets n a.1))

pub encode_octets : (n : Labels) → IsName n → Octets (encode n)
encode_octets n a = labels_octets n a.labels

-- no name's octets begin another's
pub encode_one : (n m : Labels) (t u : List ℕ) → AreLabels n → AreLabels m → encode n ++ t ≡ encode m ++ u → n ≡ m
encode_one [] [] t u a b e = refl
encode_one [] (l ∷ m) t u a b e =
    let z : 0 ≡ length l = cc in
    absurd (omega (arith, b.0.some))
encode_one (l ∷ n) [] t u a b e =
    let z : length l ≡ 0 = cc in
    absurd (omega (arith, a.0.some))
encode_one (l ∷ n) (k ∷ m) t u a b e =
    let z : length l ≡ length k = cc in
    let r : (l ++ encode n) ++ t ≡ (k ++ encode m) ++ u = cc in
    let q : l ++ (encode n ++ t) ≡ k ++ (encode m ++ u) =
    sym (append_assoc l (encode n) t) ∙ r ∙ append_assoc k (encode m) u in
    let w = same_run l k (encode n ++ t) (encode m ++ u) z q in
    let v : n ≡ m = encode_one n m t u a.1 b.1 w.1 in
    cc

-- two names with the same octets have the same labels
pub same_labels : (n m : Labels) → AreLabels n → AreLabels m → encode n ≡ encode m → n ≡ m
same_labels n m a b e = encode_one n m [] [] a b (ap (λ (u : List ℕ). u ++ []) e)

-- a name that begins at p, after n octets of the whole
record Found (s : List ℕ) (p n : ℕ) (r : Name) : Type 0 where
  name : Labels
  are : AreLabels name
  rest : List ℕ
  stands : drop p s ≡ encode name ++ rest
  len_is : r.len ≡ n + length (encode name)
  labels_are : r.labels ≡ length name
  short : r.len ≤ longest_name

found_root : (s : List ℕ) (p n : ℕ) → p < length s → octet_at s p ≡ 0 → n < longest_name → Found s p n (record { len = n + 1; labels = 0 })
found_root s p n h g i =
    record {
      name = [];
      are = tt;
      rest = drop (p + 1) s;
      stands = from_here s p h ∙ ap (λ (c : ℕ). c ∷ drop (p + 1) s) g;
      len_is = refl;
      labels_are = refl;
      short = omega arith;
    }

found_label : (s : List ℕ) (p n : ℕ) (q r : Name) → r.len ≡ q.len → r.labels ≡ 1 + q.labels → Octets s → p < length s → 1 ≤ octet_at s p → octet_at s p ≤ longest_label
    → Found s (p + 1 + octet_at s p) (n + 1 + octet_at s p) q → Found s p n r
found_label s p n q r l_is m_is o h g i f =
    let c : ℕ = octet_at s p in
    let d : List ℕ = drop (p + 1) s in
    let l : List ℕ = take c d in
    let m : length (drop (p + 1 + c) s) ≡ length (encode f.name) + length f.rest =
    ap length f.stands ∙ length-append (encode f.name) f.rest in
    let fits : c ≤ length d = omega (arith, length-drop (p + 1) s, length-drop (p + 1 + c) s, encode_some f.name) in
    let is : length l ≡ c = length-take-le c d fits in
    let e : d ≡ l ++ (encode f.name ++ f.rest) =
    sym (take-append-drop c d) ∙ ap (λ (r : List ℕ). l ++ r) (drop-drop c (p + 1) s ∙ f.stands) in
    let some : 1 ≤ length l = omega arith in
    let few : length l ≤ longest_label = omega arith in
    let all : length (encode (l ∷ f.name)) ≡ 1 + c + length (encode f.name) =
    omega (arith, length-append l (encode f.name)) in
    record {
      name = l ∷ f.name;
      are = (record { some = some; short = few; octets = octets_take c d (octets_drop (p + 1) s o) }, f.are);
      rest = f.rest;
      stands =
          from_here s p h
          ∙ ap (λ (k : ℕ). k ∷ d) (sym is)
          ∙ ap (λ (r : List ℕ). length l ∷ r) (e ∙ sym (append_assoc l (encode f.name) f.rest));
      len_is = omega (arith, f.len_is);
      labels_are = omega (arith, f.labels_are);
      short = omega (arith, f.short);
    }

sound : (k : ℕ) (s : List ℕ) (p n : ℕ) (r : Name) → Octets s → n < longest_name → name_from k s p n ≡ Some r
    → Found s p n r
unfolding name_from
sound zero s p n r o b e = absurd (let z : ◌≡◌ {A = ℕ} 0 1 = cc in omega arith)
sound (suc k) s p n r o b e = go (place s p n) (λ q. sound k s (p + 1 + octet_at s p) (n + 1 + octet_at s p) q o)
  where
    go : Place s p n
        → ((q : Name)
        → n + 1 + octet_at s p < longest_name
        → name_from k s (p + 1 + octet_at s p) (n + 1 + octet_at s p) ≡ Some q
        → Found s (p + 1 + octet_at s p) (n + 1 + octet_at s p) q)
        → Found s p n r
    go (over h) i = absurd (let z : ◌≡◌ {A = ℕ} 0 1 = cc (at_over k s p n h) in omega arith)
    go (none h g) i = absurd (let z : ◌≡◌ {A = ℕ} 0 1 = cc (at_none k s p n h g) in omega arith)
    go (long h g u v) i = absurd (let z : ◌≡◌ {A = ℕ} 0 1 = cc (at_long k s p n h g u v) in omega arith)
    go (root h g) i =
        let q : ◌≡◌ {A = Name} (record { len = n + 1; labels = 0 }) r = cc (at_root_lem k s p n h g) in
        subst (λ (x : Name). Found s p n x) q (found_root s p n h g b)
    go (label h g u v) i =
        let w = without 1 _ r (sym (at_label k s p n h g u v) ∙ e) in
        found_label s p n w.fewer r w.len_is w.labels_are o h g u (i w.fewer v w.is)

complete : (k : ℕ) (s : List ℕ) (p n : ℕ) (name : Labels) (rest : List ℕ) → AreLabels name → drop p s ≡ encode name ++ rest
    → n + length (encode name) ≤ longest_name → length name < k
    → name_from k s p n ≡ Some (record { len = n + length (encode name); labels = length name })
complete zero s p n name rest a e h f = absurd (omega arith)
complete (suc k) s p n [] rest a e h f = at_root_lem k s p n (there s p 0 rest e) (here s p 0 rest e)
complete (suc k) s p n (l ∷ m) rest a e h f =
    let c : ℕ = octet_at s p in
    let t : List ℕ = (l ++ encode m) ++ rest in
    let is : c ≡ length l = here s p (length l) t e in
    let b : drop (p + 1) s ≡ l ++ (encode m ++ rest) = behind s p (length l) t e ∙ append_assoc l (encode m) rest in
    let b2 : drop (p + 1 + c) s ≡ encode m ++ rest =
    ap (λ (k : ℕ). drop (p + 1 + k) s) is ∙ past s (p + 1) l (encode m ++ rest) b in
    let q : length (encode (l ∷ m)) ≡ 1 + length l + length (encode m) = omega (arith, length-append l (encode m)) in
    let some : 1 ≤ c = omega (arith, a.0.some) in
    let few : c ≤ longest_label = omega (arith, a.0.short) in
    let room : n + 1 + c < longest_name = omega (arith, encode_some m) in
    let h2 : n + 1 + c + length (encode m) ≤ longest_name = omega arith in
    let fl : length m < k = omega arith in
    let z : n + 1 + c + length (encode m) ≡ n + length (encode (l ∷ m)) = omega arith in
    let y : 1 + length m ≡ length (l ∷ m) = omega arith in
    at_label k s p n (there s p (length l) t e) some few room
    ∙ ap (more_labels 1) (complete k s (p + 1 + c) (n + 1 + c) m rest a.1 b2 h2 fl)
    ∙ ap (λ (x : ℕ). Some (record { len = x; labels = 1 + length m })) z
    ∙ ap (λ (x : ℕ). Some (record { len = n + length (encode (l ∷ m)); labels = x })) y

-- The reader finds a name exactly if a name's octets stand there; it tells how many they are, and how many labels.
pub reads_a_name : (s : List ℕ) (at : ℕ) (r : Name) → Octets s → (name_at s at ≡ Some r) ↔ PlainReadingAt s at r
reads_a_name s at r o = (to, from)
  where
    to : name_at s at ≡ Some r → PlainReadingAt s at r
    to e =
        let f = sound longest_name s at 0 r o (omega arith) e in
        let l : r.len ≡ length (encode f.name) = omega (arith, f.len_is) in
        let h : length (encode f.name) ≤ longest_name = omega (arith, f.short) in
        let n : List ℕ = encode f.name in
        record {
          name_at = record {
            name = f.name;
            is_name = record { labels = f.are; short = h };
            len_is = l;
            octets = ap (take (length n)) f.stands ∙ take_at n f.rest (length n) refl;
          };
          labels_are = f.labels_are;
        }

    from : PlainReadingAt s at r → name_at s at ≡ Some r
    from a =
        let f = a.name_at in
        let n : List ℕ = encode f.name in
        let h : 0 + length n ≤ longest_name = omega (arith, f.is_name.short) in
        let fuel : length f.name < longest_name = omega (arith, encode_labels f.name f.is_name.labels) in
        let l : 0 + length n ≡ r.len = omega (arith, f.len_is) in
        complete longest_name s at 0 f.name (drop (length n) (drop at s)) f.is_name.labels (stand_drop s at n f.octets) h fuel
        ∙ ap (λ (x : ℕ). Some (record { len = x; labels = length f.name })) l
        ∙ ap (λ (x : ℕ). Some (record { len = r.len; labels = x })) (sym a.labels_are)

-- So it finds every name that stands there.
pub finds_name : (s : List ℕ) (at len : ℕ) → Octets s → (f : NameAt s at len)
    → name_at s at ≡ Some (record { len = len; labels = length f.name })
finds_name s at len o f = (reads_a_name s at _ o).1 (record { name_at = f; labels_are = refl })

-- The reader finds none exactly if no name stands there: its turns never run out.
pub reads_none : (s : List ℕ) (at : ℕ) → Octets s → (name_at s at ≡ None) ↔ ((len : ℕ) → NameAt s at len → ⊥)
reads_none s at o = (λ e len f. i.0 e (record { len = len; labels = length f.name }) (record { name_at = f; labels_are = refl }), λ n. i.1 (λ r f. n r.len f.name_at))
  where
    either : (x : Option Name) → ((r : Name) × (x ≡ Some r)) ⊎ (x ≡ None)
    either (Some r) = inl (r, refl)
    either None = inr refl

    i : (name_at s at ≡ None) ↔ ((r : Name) → PlainReadingAt s at r → ⊥)
    i = finds_none (λ r. reads_a_name s at r o) (λ r e. let z : ◌≡◌ {A = ℕ} 0 1 = cc in omega arith) (either (name_at s at))

-- At most one name stands at an offset.
pub one_name : (s : List ℕ) (at m n : ℕ) (a : NameAt s at m) (b : NameAt s at n) → a.name ≡ b.name
one_name s at m n a b =
    encode_one
    a.name
    b.name
    (drop (length (encode a.name)) (drop at s))
    (drop (length (encode b.name)) (drop at s))
    a.is_name.labels
    b.is_name.labels
    (sym (stand_drop s at (encode a.name) a.octets) ∙ stand_drop s at (encode b.name) b.octets)

-- The octets of a name are read back as that name, whatever stands before and after them.
pub reads_back : (b : List ℕ) (n : Labels) (r : List ℕ) → IsName n
    → name_at (b ++ (encode n ++ r)) (length b) ≡ Some (record { len = length (encode n); labels = length n })
reads_back b n r h =
    let e : drop (length b) (b ++ (encode n ++ r)) ≡ encode n ++ r = drop_at b (encode n ++ r) (length b) refl in
    let s : 0 + length (encode n) ≤ longest_name = omega (arith, h.short) in
    let f : length n < longest_name = omega (arith, encode_labels n h.labels, h.short) in
    let z : 0 + length (encode n) ≡ length (encode n) = omega arith in
    complete longest_name (b ++ (encode n ++ r)) (length b) 0 n r h.labels e s f
    ∙ ap (λ (x : ℕ). Some (record { len = x; labels = length n })) z

-- Alone, too.
pub reads_alone : (n : Labels) → IsName n → name_at (encode n) 0 ≡ Some (record { len = length (encode n); labels = length n })
reads_alone n h = ap (λ (x : List ℕ). name_at x 0) (sym (append-nil (encode n))) ∙ reads_back [] n [] h

-- A name that stands in s ends within s.
pub name_inside : (s : List ℕ) (at len : ℕ) → NameAt s at len → at + len ≤ length s
name_inside s at len a =
    let n : List ℕ = encode a.name in
    let l : min (length n) (length (drop at s)) ≡ length n = sym (length-take (length n) (drop at s)) ∙ ap length a.octets in
    omega (arith, a.len_is, length-drop at s, encode_some a.name)
