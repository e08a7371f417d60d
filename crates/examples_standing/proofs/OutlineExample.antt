-- A guest's write into a raw disk: what the checks look at is as it was.
use Rattle.std.proofs.Common.{◌≡◌, ℕ, zero, suc, ◌+◌, ◌*◌, ◌/◌, ◌%◌, ◌<◌, Bool, true, false, List, [], ◌∷◌, Option, Some, None, refl, ap, subst, sym, arith, if◌then◌else◌}
use Rattle.std.specs.Prelude.{slice_index}
use Rattle.std.proofs.lemmas.Nat.{mod_below}
use Rattle.sm_base.specs.declared.names.Name.{Name}
use Rattle.sm_base.specs.declared.names.Name.TheVariants.{Raw}
use Rattle.sm_record.specs.Records.{reading}
use Rattle.vg_meta.specs.Tables.{Row, row_of, name_eq}
use Rattle.vg_volumes.specs.Volumes.{piece, spot}
use Rattle.common_laws.specs.Lists.{◌>>=◌}
use Rattle.sm_standing.specs.Contents.{Content, reading_at, sectors_of, size_of}
use Rattle.sm_standing.specs.Images.{image_of, raw_image}
use Rattle.sm_standing.specs.Outlines.{Link, link_of, outline, IsOutlinedAlike}
use Rattle.sm_standing.proofs.OutlineLaws.{outline_same}
use Rattle.examples_standing.specs.SmallContents.{lone_raw}

-- the areas are the same in the extent of the records
abbrev pub SameRecords : (ℕ → List ℕ) → (ℕ → List ℕ) → Type 0
SameRecords a b = (p : ℕ) → p < 8 → b p ≡ a p

abbrev raw_link : ℕ → Option Link
raw_link size = Some (record { size = size; parent = None })

-- an outline shows of a raw image its size alone
raw_same : (a b : Content) (u : List ℕ) (o : Option Row) → size_of b (Raw u) ≡ size_of a (Raw u)
    → link_of (o >>= (λ r. if r.fresh then None else Some (raw_image b (Raw u)))) ≡ link_of (o >>= (λ r. if r.fresh then None else Some (raw_image a (Raw u))))
unfolding raw_image
raw_same a b u None size = refl
raw_same a b u (Some r) size = by r.fresh
  where
    by : (fresh : Bool) → link_of (if fresh then None else Some (raw_image b (Raw u))) ≡ link_of (if fresh then None else Some (raw_image a (Raw u)))
    by true = refl
    by false = ap raw_link size

links_same : (a b : ℕ → List ℕ) (n : Name) → link_of (image_of (lone_raw b) n) ≡ link_of (image_of (lone_raw a) n)
unfolding image_of row_of name_eq
links_same a b (Raw u) = raw_same (lone_raw a) (lone_raw b) u (row_of (lone_raw a).table.volumes (Raw u)) refl
links_same a b _ = refl

first_extent : (i : ℕ) → slice_index (0 ∷ []) i ≡ 0
first_extent zero = refl
first_extent (suc i) = refl

records_same : (a b : ℕ → List ℕ) → SameRecords a b → (k : ℕ) → reading_at (lone_raw b) k ≡ reading_at (lone_raw a) k
unfolding sectors_of piece spot row_of name_eq
records_same a b same k =
    let at : slice_index (0 ∷ []) (k / 8) * 8 + k % 8 ≡ k % 8 = omega (arith, first_extent (k / 8)) in
    ap reading (subst (λ p. b p ≡ a p) (sym at) (same (k % 8) (mod_below k 8 (omega arith))))

pub written_alike : (a b : ℕ → List ℕ) → SameRecords a b → IsOutlinedAlike (lone_raw a) (lone_raw b)
written_alike a b same = record {
  extent = refl;
  block = refl;
  entries = refl;
  table = refl;
  links = links_same a b;
  readings = λ k below. records_same a b same k;
}

pub written_outline : (a b : ℕ → List ℕ) → SameRecords a b → outline (lone_raw b) ≡ outline (lone_raw a)
written_outline a b same = outline_same (lone_raw a) (lone_raw b) (written_alike a b same)
