-- The spelling of names.
use Rattle.std.proofs.Common.{◌≡◌, ℕ, ◌+◌, ◌≤◌, List, [], ◌∷◌, ◌++◌, length, length-append, take, drop, codes, decimal, arith, refl, sym, ap, ◌∙◌}
use Rattle.std.proofs.lemmas.List.{take_at}
use Rattle.std.proofs.lemmas.Fmt.{length-decimal-le}
use Rattle.std.proofs.Common.{zero, suc, true, All}
use Rattle.std.proofs.lemmas.List.Elements.{All-append}
use Rattle.std.proofs.lemmas.Bool.Decides.{nat_tests}
use Rattle.std.specs.List.{list_all}
use Rattle.sm_base.specs.Labels.{is_label_byte}
use Rattle.sm_base.specs.declared.names.Name.{Name}
use Rattle.sm_base.specs.declared.names.Name.TheVariants.{Mgt, Vhd, Raw, Old, Cbt, Clone, Inflate, Coalesce, Relink, Leaf}
use Rattle.sm_base.specs.Names.{uuid_text, spelling, IsName}
use Rattle.sm_base.specs.Texts.{placed}
use Rattle.sm_base.proofs.TextLemmas.{length-uuid_text, placed-zero}

-- a buffer that begins with the spelling
pub spelled : (n m : Name) (old new : List ℕ) → n ≡ m → new ≡ placed 0 (spelling m) old → new ≡ spelling n ++ drop (length (spelling n)) old
spelled n m old new same now = now ∙ placed-zero (spelling m) old ∙ ap (λ (k : Name). spelling k ++ drop (length (spelling k)) old) (sym same)

-- the text in front of what the buffer held
pub text_front : (text old new : List ℕ) (size : ℕ) → new ≡ text ++ drop (length text) old → size ≡ length text → take size new ≡ text
text_front text old new size written long =
    ap (take size) written ∙ take_at text (drop (length text) old) size (sym long)

-- the length of a spelling
abbrev pub length_of : Name → ℕ
length_of Mgt = 3
length_of (Vhd u) = 40
length_of (Raw u) = 39
length_of (Old u) = 40
length_of (Cbt u) = 40
length_of (Clone disk base twin) = 116
length_of (Inflate image extents) = 45 + length (decimal extents)
length_of (Coalesce child parent) = 82
length_of (Relink child parent) = 80
length_of (Leaf leaf parent) = 78

after : (front text : List ℕ) → length (front ++ text) ≡ length front + length text
after front text = length-append front text

pub length-spelling : (n : Name) → length (spelling n) ≡ length_of n
unfolding spelling
length-spelling Mgt = refl
length-spelling (Vhd u) = omega (arith, after (codes "VHD-") (uuid_text u), length-uuid_text u)
length-spelling (Raw u) = omega (arith, after (codes "LV-") (uuid_text u), length-uuid_text u)
length-spelling (Old u) = omega (arith, after (codes "OLD_") (uuid_text u), length-uuid_text u)
length-spelling (Cbt u) = omega (arith, after (codes "CBT-") (uuid_text u), length-uuid_text u)
length-spelling (Clone disk base twin) =
    omega (arith, length-append (uuid_text disk) (codes "_" ++ (uuid_text base ++ (codes "_" ++ uuid_text twin))), length-append (uuid_text base) (codes "_" ++ uuid_text twin), length-uuid_text disk, length-uuid_text base, length-uuid_text twin)
length-spelling (Inflate image extents) =
    omega (arith, length-append (uuid_text image) (codes "_" ++ decimal extents), length-uuid_text image)
length-spelling (Coalesce child parent) =
    omega (arith, length-append (uuid_text child) (codes "_" ++ uuid_text parent), length-uuid_text child, length-uuid_text parent)
length-spelling (Relink child parent) =
    omega (arith, length-append (uuid_text child) (codes "_" ++ uuid_text parent), length-uuid_text child, length-uuid_text parent)
length-spelling (Leaf leaf parent) =
    omega (arith, length-append (uuid_text leaf) (codes "_" ++ uuid_text parent), length-uuid_text leaf, length-uuid_text parent)

pub length-spelling-le : (n : Name) → IsName n → length (spelling n) ≤ 116
unfolding IsName
length-spelling-le Mgt is = omega (arith, length-spelling Mgt)
length-spelling-le (Vhd u) is = omega (arith, length-spelling (Vhd u))
length-spelling-le (Raw u) is = omega (arith, length-spelling (Raw u))
length-spelling-le (Old u) is = omega (arith, length-spelling (Old u))
length-spelling-le (Cbt u) is = omega (arith, length-spelling (Cbt u))
length-spelling-le (Clone disk base twin) is = omega (arith, length-spelling (Clone disk base twin))
length-spelling-le (Inflate image extents) is =
    omega (arith, length-spelling (Inflate image extents), length-decimal-le 10 extents (omega arith) (omega (arith, is.2)) (omega (arith, is.2)))
length-spelling-le (Coalesce child parent) is = omega (arith, length-spelling (Coalesce child parent))
length-spelling-le (Relink child parent) is = omega (arith, length-spelling (Relink child parent))
length-spelling-le (Leaf leaf parent) is = omega (arith, length-spelling (Leaf leaf parent))

-- ---- the bytes of a spelling

-- from `!` to `~`, so neither 0 nor white space, and below 128
abbrev pub IsPrinting : ℕ → Type 0
IsPrinting b = (33 ≤ b) × (b ≤ 126)

literal_prints : (text : List ℕ) → list_all is_label_byte text ≡ true → All IsPrinting text
literal_prints [] test k d here = absurd (omega arith)
literal_prints (b ∷ bs) test zero d here = (grind (arith, nat_tests), grind (arith, nat_tests))
literal_prints (b ∷ bs) test (suc k) d here = literal_prints bs (grind (arith, nat_tests)) k d (omega arith)

behind : (front text : List ℕ) → list_all is_label_byte front ≡ true → All IsPrinting text → All IsPrinting (front ++ text)
behind front text test rest = All-append IsPrinting front text (literal_prints front test) rest
