-- Laws of octets in hexadecimal, and of the line of a refusal.
use Rattle.std.proofs.Common.{ℕ, suc, zero, ◌-◌, ◌/◌, ◌%◌, ◌<◌, ◌≤◌, ◌≡◌, refl, ap, ◌∙◌, List, [], ◌∷◌, ◌++◌, arith, get_or, length, replicate, take, codes, decimal, Some}
use Rattle.std.proofs.lemmas.List.{append-nil, append_assoc}
use Rattle.std.specs.List.{concat}
use Rattle.std.proofs.lemmas.List.Folds.{concat-append}
use Rattle.octets.specs.Octets.{part_of, put}
use Rattle.octets.proofs.Octets.{part_in}
use Rattle.octets.proofs.Splice.{length_put, front}
use Rattle.names.specs.Bounds.{longest_name}
use Rattle.names.specs.RecordNameWalk.{record_name_at, expanded_at}
use Rattle.names.specs.declared.RecordName.{RecordName}
use Rattle.names.proofs.RecordNameWalk.{record_name_fits}
use Rattle.names.proofs.Expansion.{expanded_length}
use Rattle.std.specs.Char.{digit_char}
use Rattle.hex.specs.Hex.{IsBytes, encode_lower, encode_with, lower_digits}
use Rattle.run_calls.specs.Lines.{hex_of}
use Rattle.run_calls.specs.Pieces.{field, line_end, name_pieces, name_read_pieces, refusal_pieces}
use Rattle.refusal.specs.Numbers.{number_of}
use Rattle.refusal.specs.declared.Refusal.{Refusal}
use Rattle.refusal.specs.declared.Refusal.TheVariants.{Room, Table, Interface, Clock, Length}
use Rattle.refusal.specs.declared.Refusal.TheVariants.{Address, Opcode, Rcode, Counts, Question}
use Rattle.refusal.specs.declared.Refusal.TheVariants.{Class, NotOurs, Stopped, Notification}
use Rattle.refusal.specs.declared.Refusal.TheVariants.{Unmatched, Own, Tentative, Records, Busy}
use Rattle.refusal.specs.declared.Refusal.TheVariants.{Settings, TooSoon, SeveralLabels}

-- a digit of the table of 16
low : (n : ℕ) → n < 16 → get_or lower_digits n 0 ≡ digit_char n
low zero h = refl
low (suc zero) h = refl
low (suc (suc zero)) h = refl
low (suc (suc (suc zero))) h = refl
low (suc (suc (suc (suc zero)))) h = refl
low (suc (suc (suc (suc (suc zero))))) h = refl
low (suc (suc (suc (suc (suc (suc zero)))))) h = refl
low (suc (suc (suc (suc (suc (suc (suc zero))))))) h = refl
low (suc (suc (suc (suc (suc (suc (suc (suc zero)))))))) h = refl
low (suc (suc (suc (suc (suc (suc (suc (suc (suc zero))))))))) h = refl
low (suc (suc (suc (suc (suc (suc (suc (suc (suc (suc zero)))))))))) h = refl
low (suc (suc (suc (suc (suc (suc (suc (suc (suc (suc (suc zero))))))))))) h = refl
low (suc (suc (suc (suc (suc (suc (suc (suc (suc (suc (suc (suc zero)))))))))))) h = refl
low (suc (suc (suc (suc (suc (suc (suc (suc (suc (suc (suc (suc (suc zero))))))))))))) h = refl
low (suc (suc (suc (suc (suc (suc (suc (suc (suc (suc (suc (suc (suc (suc zero)))))))))))))) h = refl
low (suc (suc (suc (suc (suc (suc (suc (suc (suc (suc (suc (suc (suc (suc (suc zero))))))))))))))) h = refl
low (suc (suc (suc (suc (suc (suc (suc (suc (suc (suc (suc (suc (suc (suc (suc (suc n)))))))))))))))) h = absurd (omega arith)

-- two digits for each octet
pub hex_lower : (s : List ℕ) → IsBytes s → encode_lower s ≡ hex_of s
unfolding encode_with hex_of
hex_lower [] h = refl
hex_lower (c ∷ s) h =
    let b : c < 256 = h 0 in
    rw (low (c / 16) (omega arith), low (c % 16) (omega arith), hex_lower s (λ i. h (suc i)))

-- a refusal for any reason but a bad table has no offset
pub no_offset : (r : Refusal) → ((at : ℕ) → r ≡ Table at → ⊥)
    → refusal_pieces r ≡ field (codes " refused no=") (number_of r)
no_offset Room h = refl
no_offset (Table at) h = absurd (h at refl)
no_offset Interface h = refl
no_offset Clock h = refl
no_offset Length h = refl
no_offset Address h = refl
no_offset Opcode h = refl
no_offset Rcode h = refl
no_offset Counts h = refl
no_offset Question h = refl
no_offset Class h = refl
no_offset NotOurs h = refl
no_offset Stopped h = refl
no_offset Notification h = refl
no_offset Unmatched h = refl
no_offset Own h = refl
no_offset Tentative h = refl
no_offset Records h = refl
no_offset Busy h = refl
no_offset Settings h = refl
no_offset TooSoon h = refl
no_offset SeveralLabels h = refl

pub without_offset : (r : Refusal) → ((at : ℕ) → r ≡ Table at → ⊥)
    → concat (refusal_pieces r) ≡ codes " refused no=" ++ decimal (number_of r)
without_offset r h = ap concat (no_offset r h) ∙ simp append-nil

-- that of a bad table has one
pub with_offset : (r : Refusal) (at : ℕ) → r ≡ Table at
    → concat (refusal_pieces r)
    ≡ codes " refused no=" ++ (decimal (number_of r) ++ (codes " at=" ++ decimal at))
with_offset r at e = rw e (simp append-nil)

-- lines after lines
pub ruleset joins = (concat-append, append-nil, append_assoc)

-- the expanded name of a record stands at the front of a buffer with room for any name
pub expanded_front : (s : List ℕ) (at : ℕ) (r : RecordName) (out : List ℕ)
    → record_name_at s at ≡ Some r → longest_name ≤ length out
    → part_of (put out 0 (expanded_at s at)) 0 r.len ≡ expanded_at s at
expanded_front s at r out e h =
    let f = record_name_fits s at r e in
    let xs : List ℕ = expanded_at s at in
    let l : length xs ≡ r.len = expanded_length s at r e in
    let k : length xs ≤ length out = omega arith in
    let n : r.len - 0 ≡ length xs = omega arith in
    part_in (put out 0 xs) 0 r.len (omega arith) (omega (arith, length_put out 0 xs))
    ∙ ap (λ (m : ℕ). take m (put out 0 xs)) n ∙ front out xs k

-- and so it stands in the line
pub expanded_text : (s : List ℕ) (at : ℕ) (r : RecordName) → record_name_at s at ≡ Some r
    → concat (name_read_pieces (record_name_at s at) (expanded_at s at))
    ≡ concat (name_pieces r (part_of (put (replicate longest_name 0) 0 (expanded_at s at)) 0 r.len))
    ++ codes "\n"
expanded_text s at r e =
    rw (e, expanded_front s at r (replicate longest_name 0) e (omega arith))
    (concat-append (name_pieces r (expanded_at s at)) line_end)
