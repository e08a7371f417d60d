-- When an answer is the machine's, of an image or of a pair of images in memory; and the rules of the collector, one by one.
use Rattle.std.specs.Prelude.{◌≡◌, ℕ, min, List, [], ◌∷◌, ◌++◌, Option, None, Some}
use Rattle.std.specs.List.{filter_map, find}
use Rattle.std.specs.Option.{option_map}
use Rattle.common_laws.specs.Lists.{In, given, ◌>>=◌}
use Rattle.sm_base.specs.declared.operations.Plan.{Plan}
use Rattle.sm_base.specs.declared.operations.Plan.TheVariants as plan
use Rattle.sm_base.specs.declared.sizes.Geometry.{Geometry}
use Rattle.vg_meta.specs.Tables.{VolumeTable}
use Rattle.vg_volumes.specs.Sites.{Site}
use Rattle.vhd_image.specs.Bodies.{IsVhd}
use Rattle.vhd_chain.specs.declared.rows.TreeRow.{TreeRow}
use Rattle.sm_machine.specs.Collector as machine
use Rattle.sm_machine.specs.Shapes.{ImageRow, Shape, free, thin_in, top}
use Rattle.sm_ready.specs.Known.{Known, machine_row, shape_in}
use Rattle.sm_ready.specs.Orderly.{IsOrderly}
use Rattle.sm_ready.specs.Ready.{IsTidy}
use Rattle.gc_plan.specs.declared.pairs.Kind.{Kind}
use Rattle.gc_plan.specs.declared.pairs.Kind.TheVariants as kind
use Rattle.gc_plan.specs.declared.pairs.Pair.{Pair}

-- what is answered of an image in memory is what the machine says of it, beside each table with which memory is orderly and tidy
abbrev pub RecallsOf : {A : Type 0} → (Shape → ImageRow → A) → Known → TreeRow → A → Type 0
RecallsOf says m r answer = (s : Site) (t : VolumeTable) → IsOrderly s t m → IsTidy t m → In r m.rows → answer ≡ says (shape_in s t m) (machine_row r)

-- the same of what is answered by sizes too
abbrev pub MeasuresOf : {A : Type 0} → (Shape → ImageRow → A) → Geometry → Known → TreeRow → A → Type 0
MeasuresOf says sizes m r answer = (s : Site) (t : VolumeTable) → s.geometry ≡ sizes → IsOrderly s t m → IsTidy t m → In r m.rows → answer ≡ says (shape_in s t m) (machine_row r)

-- a pair as the machine has it
abbrev pub as_pair : Pair → machine.Pair
as_pair p = record { child = machine_row p.child.now; parent = machine_row p.parent.now }

-- its images are in memory, and the one that is folded is a VHD image
pub record IsPairIn (rows : List TreeRow) (p : Pair) : Type 0 where
  pub child : In p.child.now rows
  pub parent : In p.parent.now rows
  pub vhd : IsVhd p.child.now.image

-- what is answered of a pair by sizes is what the machine says of it
abbrev pub MeasuresPair : {A : Type 0} → (Shape → machine.Pair → A) → Geometry → Known → Pair → A → Type 0
MeasuresPair says sizes m p answer =
    (s : Site) (t : VolumeTable) → s.geometry ≡ sizes → IsOrderly s t m → IsTidy t m → IsPairIn m.rows p → answer ≡ says (shape_in s t m) (as_pair p)

-- the same of what is answered by sizes and by the number of free extents: of memory, of an image and of a pair
abbrev pub Fills : {A : Type 0} → (Shape → A) → Geometry → ℕ → Known → A → Type 0
Fills says sizes room m answer =
    (s : Site) (t : VolumeTable) → s.geometry ≡ sizes → IsOrderly s t m → IsTidy t m → room ≡ free (shape_in s t m) → answer ≡ says (shape_in s t m)

abbrev pub FillsOf : {A : Type 0} → (Shape → ImageRow → A) → Geometry → ℕ → Known → TreeRow → A → Type 0
FillsOf says sizes room m r answer =
    (s : Site) (t : VolumeTable) → s.geometry ≡ sizes → IsOrderly s t m → IsTidy t m → room ≡ free (shape_in s t m) → In r m.rows → answer ≡ says (shape_in s t m) (machine_row r)

abbrev pub FillsPair : {A : Type 0} → (Shape → machine.Pair → A) → Geometry → ℕ → Known → Pair → A → Type 0
FillsPair says sizes room m p answer =
    (s : Site) (t : VolumeTable) → s.geometry ≡ sizes → IsOrderly s t m → IsTidy t m → room ≡ free (shape_in s t m) → IsPairIn m.rows p → answer ≡ says (shape_in s t m) (as_pair p)

-- an image of a kind and its parent, and all of them in order of the image's name
abbrev pub candidate_of : Kind → Shape → ImageRow → Option machine.Pair
candidate_of kind.Hidden σ = machine.pair_of σ
candidate_of kind.Leaf σ = machine.leaf_of σ
candidate_of kind.Live σ = machine.live_of σ

abbrev pub candidates : Kind → Shape → List machine.Pair
candidates k σ = filter_map (candidate_of k σ) σ.images

-- the step that begins to fold an image
abbrev pub begun : Kind → Shape → machine.Pair → Plan
begun kind.Hidden σ = λ p. plan.Begin p.child.name p.parent.name (machine.target σ p)
begun kind.Leaf σ = λ p. plan.Leaf p.child.name p.parent.name (machine.target σ p)
begun kind.Live σ = λ p. plan.Live p.child.name p.parent.name (machine.target σ p)

-- the same for one image, where it is of this kind and there is room
abbrev pub begun_at : Kind → Shape → ImageRow → Option Plan
begun_at k σ i = candidate_of k σ i >>= (λ p. given (machine.fits σ p) (begun k σ p))

-- the extents that an image's parent is to gain, where the image is of this kind
abbrev pub growth_of : Kind → Shape → ImageRow → Option ℕ
growth_of k σ i = option_map (machine.growth σ) (candidate_of k σ i)

-- the least of the growths, where there is one
abbrev pub least_of : Shape → List machine.Pair → Option ℕ
least_of σ [] = None
least_of σ (p ∷ ps) = Some (machine.least_growth σ p ps)

-- the lesser of two numbers that may be missing
abbrev pub lesser : Option ℕ → Option ℕ → Option ℕ
lesser None other = other
lesser (Some a) None = Some a
lesser (Some a) (Some b) = Some (min a b)

-- the rules, in the order in which they are tried
abbrev pub removal : Shape → Option Plan
removal σ = option_map (λ i. plan.Remove i.name) (find (machine.is_garbage σ) σ.images)

abbrev pub deflation : Shape → Option Plan
deflation σ = option_map (λ i. plan.Deflate i.name (thin_in σ (top i.slots))) (find (machine.is_loose σ) σ.images)

abbrev pub folding : Kind → Shape → Option Plan
folding k σ = option_map (begun k σ) (find (machine.fits σ) (candidates k σ))

-- the step of a rule that gives one, else another
abbrev pub else_plan : Option Plan → Plan → Plan
else_plan None other = other
else_plan (Some p) other = p

-- where no folding can begin
abbrev pub blocked_next : Shape → Plan
blocked_next σ = machine.blocked σ (machine.pairs σ ++ (machine.leaves σ ++ machine.lives σ))

-- where nothing is to be removed or cut
abbrev pub fold_next : Shape → Plan
fold_next σ = else_plan (folding kind.Hidden σ) (else_plan (folding kind.Leaf σ) (else_plan (folding kind.Live σ) (blocked_next σ)))
