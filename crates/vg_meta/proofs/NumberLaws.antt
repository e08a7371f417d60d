-- Numbers and texts of equal length read in one way.
use Rattle.std.proofs.Common.{◌≡◌, ℕ, ◌<◌, ◌^◌, List, [], ◌∷◌, ◌++◌, length, refl, sym, ap, ap₂, ◌∙◌, arith}
use Rattle.byteorder.specs.Endian.{big_bytes, big_number}
use Rattle.byteorder.specs.Numbers.{big_number-reads_back, length-bytes_high_first}

-- two texts of equal length in front
pub parts_same : (a b c d : List ℕ) → length a ≡ length c → a ++ b ≡ c ++ d → (a ≡ c) × (b ≡ d)
parts_same [] b [] d long e = (refl, e)
parts_same [] b (y ∷ c) d long e = absurd (omega arith)
parts_same (x ∷ a) b [] d long e = absurd (omega arith)
parts_same (x ∷ a) b (y ∷ c) d long e =
    let tail : a ++ b ≡ c ++ d = cc in
    let head : x ≡ y = cc in
    let ih = parts_same a b c d (omega arith) tail in
    (ap₂ (λ (h : ℕ) (t : List ℕ). h ∷ t) head ih.0, ih.1)

-- a number reads in one way
pub number_same : (n a b : ℕ) (x y : List ℕ) → a < 256 ^ n → b < 256 ^ n → big_bytes n a ++ x ≡ big_bytes n b ++ y → (a ≡ b) × (x ≡ y)
number_same n a b x y small low e = (
  sym (big_number-reads_back n a x small) ∙ ap (big_number n) e ∙ big_number-reads_back n b y low,
  (parts_same (big_bytes n a) x (big_bytes n b) y (length-bytes_high_first n a ∙ sym (length-bytes_high_first n b)) e).1,
)
