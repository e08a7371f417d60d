-- A checksum that is written between the bytes that it is computed of.
use Rattle.std.proofs.Common.{◌≡◌, ℕ, ◌+◌, ◌^◌, ◌<◌, List, [], ◌∷◌, ◌++◌, length, length-append, take, drop, sum, refl, sym, ap, ◌∙◌, append_assoc, arith}
use Rattle.std.specs.List.{concat}
use Rattle.std.proofs.lemmas.List.{append-nil, take-append-drop, take_at, drop_at, drop-drop}
use Rattle.byteorder.specs.Endian.{big_bytes, big_number}
use Rattle.byteorder.specs.Numbers.{big_number-reads_back}
use Rattle.vhd_fields.specs.Checksums.{ones_complement, checksum, sealed}

pub is_sealed : (at n : ℕ) (old new : List ℕ) → n ≡ checksum at old → take (at + 4) new ≡ take at old ++ big_bytes 4 n → drop (at + 4) new ≡ drop (at + 4) old → new ≡ sealed (take at old) (drop (at + 4) old)
unfolding checksum sealed
is_sealed at n old new value front back =
    sym (take-append-drop (at + 4) new) ∙ rw (front, back, value) (append_assoc (take at old) (big_bytes 4 (checksum at old)) (drop (at + 4) old))

-- the parts of bytes with a gap of four between them
pub parts : (at : ℕ) (front gap back bytes : List ℕ) → length front ≡ at → length gap ≡ 4 → bytes ≡ front ++ (gap ++ back) → sealed (take at bytes) (drop (at + 4) bytes) ≡ sealed front back
parts at front gap back bytes front_len gap_len are =
    let before : take at bytes ≡ front = ap (take at) are ∙ take_at front (gap ++ back) at front_len in
    let both : length (front ++ gap) ≡ at + 4 = omega (arith, length-append front gap) in
    let after : drop (at + 4) bytes ≡ back = ap (drop (at + 4)) (are ∙ sym (append_assoc front gap back)) ∙ drop_at (front ++ gap) back (at + 4) both in
    rw (before, after) refl

-- what stands behind the front
pub behind : (at : ℕ) (front back : List ℕ) → length front ≡ at → drop at (sealed front back) ≡ big_bytes 4 (ones_complement (sum front + sum back)) ++ back
unfolding sealed
behind at front back len = drop_at front (big_bytes 4 (ones_complement (sum front + sum back)) ++ back) at len

-- what stands behind the checksum
pub behind_checksum : (at : ℕ) (front back : List ℕ) → length front ≡ at → drop (at + 4) (sealed front back) ≡ back
unfolding sealed
behind_checksum at front back len =
    sym (drop-drop 4 at (sealed front back)) ∙ ap (drop 4) (behind at front back len)

pub before_checksum : (at : ℕ) (front back : List ℕ) → length front ≡ at → take at (sealed front back) ≡ front
unfolding sealed
before_checksum at front back len =
    take_at front (big_bytes 4 (ones_complement (sum front + sum back)) ++ back) at len

-- the checksum of sealed bytes is the one that stands there
pub checks : (at : ℕ) (front back : List ℕ) → length front ≡ at → big_number 4 (drop at (sealed front back)) ≡ checksum at (sealed front back)
unfolding checksum
checks at front back len =
    let n = ones_complement (sum front + sum back) in
    let small : n < 2 ^ 32 = omega arith in
    let read : big_number 4 (drop at (sealed front back)) ≡ n = ap (big_number 4) (behind at front back len) ∙ big_number-reads_back 4 n back small in
    read ∙ rw (before_checksum at front back len, behind_checksum at front back len) refl

-- a front, room for the checksum, and two fields behind it
pub two_behind : (at : ℕ) (front gap x y bytes : List ℕ) → length front ≡ at → length gap ≡ 4 → bytes ≡ ((front ++ gap) ++ x) ++ y → sealed (take at bytes) (drop (at + 4) bytes) ≡ sealed front (concat (x ∷ y ∷ []))
two_behind at front gap x y bytes front_len gap_len are =
    let regroup : ((front ++ gap) ++ x) ++ y ≡ front ++ (gap ++ concat (x ∷ y ∷ [])) = simp (append_assoc, append-nil) in
    parts at front gap (concat (x ∷ y ∷ [])) bytes front_len gap_len (are ∙ regroup)
