-- What an outline shows of a content: its record sectors and its records.
use Rattle.std.proofs.Common.{◌≡◌, ℕ, ◌<◌, ◌≤◌, ◌⊎◌, inl, inr, sym, List, [], ◌∷◌, Option, cond, refl, ap, ap₂, ◌∙◌}
use Rattle.std.proofs.Math.Path.{fun_ext}
use Rattle.std.specs.List.{filter_map, cons_option}
use Rattle.std.proofs.lemmas.Bool.{lt-ltb, le-ltb, cases_lt}
use Rattle.sm_base.specs.declared.names.Name.{Name}
use Rattle.vg_meta.specs.Tables.{VolumeTable}
use Rattle.sm_record.specs.declared.records.Reading.{Reading}
use Rattle.sm_record.specs.declared.records.Reading.TheVariants.{Free}
use Rattle.common_laws.specs.Lists.{In, numbers}
use Rattle.common_laws.proofs.Lists.{In-numbers}
use Rattle.sm_standing.specs.Contents.{Content, record_count, reading_at, records, taken}
use Rattle.sm_standing.specs.Outlines.{Outline, Link, IsOutlinedAlike, reading_in, outline, outline_records}

-- within the records a sector reads as it does in the content
pub reading_within : (c : Content) (k : ℕ) → k < record_count → reading_in c k ≡ reading_at c k
reading_within c k below = ap (λ b. cond b (reading_at c k) Free) (lt-ltb k record_count below)

-- and behind them it is free
behind : (c : Content) (k : ℕ) → record_count ≤ k → reading_in c k ≡ Free
behind c k past = ap (λ b. cond b (reading_at c k) Free) (le-ltb k record_count past)

mapped_same : {A B : Type 0} (f g : A → Option B) (xs : List A) → ((x : A) → In x xs → f x ≡ g x) → filter_map f xs ≡ filter_map g xs
mapped_same f g [] same = refl
mapped_same f g (x ∷ xs) same = ap₂ cons_option (same x (inl refl)) (mapped_same f g xs (λ y h. same y (inr h)))

-- the records of an outline are those of the content
pub outline_records_same : (c : Content) → outline_records (outline c) ≡ records c
unfolding outline_records records
outline_records_same c =
    mapped_same (λ k. taken (reading_in c k)) (λ k. taken (reading_at c k)) (numbers 0 record_count)
    (λ k h. ap taken (reading_within c k (In-numbers 0 record_count k h).1))

-- ---- one outline

abbrev pub made : ℕ → ℕ → ℕ → VolumeTable → (Name → Option Link) → (ℕ → Reading) → Outline
made extent block entries table links readings = record { extent = extent; block = block; entries = entries; table = table; links = links; readings = readings }

pub made-of : {x x' y y' z z' : ℕ} {t t' : VolumeTable} {l l' : Name → Option Link} {r r' : ℕ → Reading} → x ≡ x' → y ≡ y' → z ≡ z' → t ≡ t' → l ≡ l' → r ≡ r'
    → made x y z t l r ≡ made x' y' z' t' l' r'
made-of ex ey ez et el er = λ i. made (ex i) (ey i) (ez i) (et i) (el i) (er i)

pub in_same : (a b : Content) (k : ℕ) → (k < record_count → reading_at b k ≡ reading_at a k) → (k < record_count) ⊎ (record_count ≤ k) → reading_in b k ≡ reading_in a k
in_same a b k same (inl below) = reading_within b k below ∙ same below ∙ sym (reading_within a k below)
in_same a b k same (inr past) = behind b k past ∙ sym (behind a k past)

pub outline_same : (a b : Content) → IsOutlinedAlike a b → outline b ≡ outline a
outline_same a b s = made-of s.extent s.block s.entries s.table (fun_ext s.links) (fun_ext (λ k. in_same a b k (s.readings k) (cases_lt k record_count)))
