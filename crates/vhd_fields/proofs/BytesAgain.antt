-- Bytes that read as a number are the bytes of that number, and a run of fields is its fields.
use Rattle.std.proofs.Common.{◌≡◌, ℕ, ◌+◌, ◌<◌, ◌≤◌, List, ◌++◌, All, length, get_or, take, drop, ap, ◌∙◌, arith}
use Rattle.std.specs.Int.{w32, w64, from_be_bytes}
use Rattle.std.proofs.lemmas.List.{drop-drop, length-take, length-drop, get_or-take}
use Rattle.std.proofs.lemmas.List.Elements.{All-take, All-drop}
use Rattle.std.proofs.lemmas.Nat.{be_bytes_4, be_bytes_8}
use Rattle.std.proofs.Math.Seq.{take-add}
use Rattle.byteorder.specs.Endian.{big_bytes}
use Rattle.common_laws.proofs.Bytes.{byte_below}
use Rattle.vhd_fields.specs.Fields.{bytes_at, number_at}

fits_at : (at many : ℕ) (bytes : List ℕ) → All (λ byte. byte < 256) bytes → (i : ℕ) → get_or (bytes_at at many bytes) i 0 < 256
fits_at at many bytes fits =
    byte_below (bytes_at at many bytes) (All-take (λ byte. byte < 256) many (drop at bytes) (All-drop (λ byte. byte < 256) at bytes fits))

length_at : (at many : ℕ) (bytes : List ℕ) → at + many ≤ length bytes → length (bytes_at at many bytes) ≡ many
length_at at many bytes within = omega (arith, length-take many (drop at bytes), length-drop at bytes)

pub bytes_again_4 : (at : ℕ) (bytes : List ℕ) → at + 4 ≤ length bytes → All (λ byte. byte < 256) bytes → big_bytes 4 (number_at at 4 bytes) ≡ bytes_at at 4 bytes
bytes_again_4 at bytes within fits =
    let field = drop at bytes in
    let at_0 = get_or-take 4 field 0 0 (omega arith) in
    let at_1 = get_or-take 4 field 1 0 (omega arith) in
    let at_2 = get_or-take 4 field 2 0 (omega arith) in
    let at_3 = get_or-take 4 field 3 0 (omega arith) in
    let same : number_at at 4 bytes ≡ from_be_bytes w32 (take 4 field) = omega arith in
    be_bytes_4 (bytes_at at 4 bytes) (number_at at 4 bytes) (length_at at 4 bytes within) (fits_at at 4 bytes fits) same

pub bytes_again_8 : (at : ℕ) (bytes : List ℕ) → at + 8 ≤ length bytes → All (λ byte. byte < 256) bytes → big_bytes 8 (number_at at 8 bytes) ≡ bytes_at at 8 bytes
bytes_again_8 at bytes within fits =
    let field = drop at bytes in
    let at_0 = get_or-take 8 field 0 0 (omega arith) in
    let at_1 = get_or-take 8 field 1 0 (omega arith) in
    let at_2 = get_or-take 8 field 2 0 (omega arith) in
    let at_3 = get_or-take 8 field 3 0 (omega arith) in
    let at_4 = get_or-take 8 field 4 0 (omega arith) in
    let at_5 = get_or-take 8 field 5 0 (omega arith) in
    let at_6 = get_or-take 8 field 6 0 (omega arith) in
    let at_7 = get_or-take 8 field 7 0 (omega arith) in
    let same : number_at at 8 bytes ≡ from_be_bytes w64 (take 8 field) = omega arith in
    be_bytes_8 (bytes_at at 8 bytes) (number_at at 8 bytes) (length_at at 8 bytes within) (fits_at at 8 bytes fits) same

two : (at first second : ℕ) (bytes : List ℕ) → bytes_at at (first + second) bytes ≡ bytes_at at first bytes ++ bytes_at (at + first) second bytes
two at first second bytes =
    take-add first second (drop at bytes) ∙ ap (λ (rest : List ℕ). bytes_at at first bytes ++ take second rest) (drop-drop first at bytes)

-- stamp, creator, creator version, host and original size
pub five : (bytes : List ℕ) → bytes_at 24 24 bytes ≡ bytes_at 24 4 bytes ++ (bytes_at 28 4 bytes ++ (bytes_at 32 4 bytes ++ (bytes_at 36 4 bytes ++ bytes_at 40 8 bytes)))
five bytes =
    two 24 4 20 bytes ∙ ap (λ (x : List ℕ). bytes_at 24 4 bytes ++ x) (two 28 4 16 bytes ∙ ap (λ (x : List ℕ). bytes_at 28 4 bytes ++ x) (two 32 4 12 bytes ∙ ap (λ (x : List ℕ). bytes_at 32 4 bytes ++ x) (two 36 4 8 bytes)))
