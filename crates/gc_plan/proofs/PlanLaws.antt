-- The rules of the collector in their order, each by the rows in memory, and what it does while an operation runs.
use Rattle.std.proofs.Common.{◌≡◌, ℕ, ◌<◌, ◌≤◌, nat_lt, Bool, true, false, List, [], ◌∷◌, map, length, Option, Some, None, refl, sym, ap, ◌∙◌, arith}
use Rattle.std.proofs.lemmas.Bool.{lt-ltb, ltb-true}
use Rattle.std.proofs.lemmas.Option.{none-some, same_Some}
use Rattle.std.specs.List.{find}
use Rattle.std.specs.Option.{option_map}
use Rattle.sm_base.specs.declared.names.Name.{Name}
use Rattle.sm_base.specs.declared.operations.Plan.{Plan}
use Rattle.sm_base.specs.declared.operations.Plan.TheVariants as plan
use Rattle.vg_meta.specs.Tables.{VolumeTable}
use Rattle.vg_volumes.specs.Sites.{Site}
use Rattle.common_laws.specs.Lists.{first_some, given}
use Rattle.vhd_chain.specs.Reading.{slots_of}
use Rattle.vhd_chain.specs.Trees.{first_name, row_name}
use Rattle.vhd_chain.specs.declared.rows.TreeRow.{TreeRow}
use Rattle.sm_machine.specs.Collector.{Pair, clean_or, copy_or, fits, is_garbage, is_loose, leaves, lives, next_block, pairs, plan_copy, plan_idle, relink_or, table_of, target}
use Rattle.sm_machine.specs.Operations.{dirty_limit}
use Rattle.sm_machine.specs.Shapes.{ImageRow, Shape, thin_in, top}
use Rattle.sm_operation.specs.Kept.{least}
use Rattle.sm_ready.specs.Known.{Known, machine_row, shape_in}
use Rattle.gc_plan.specs.Planning.{begun, begun_at, candidate_of, candidates, deflation, else_plan, fold_next, folding, growth_of, least_of, removal}
use Rattle.gc_plan.specs.declared.pairs.Kind.{Kind}
use Rattle.gc_plan.specs.declared.pairs.Kind.TheVariants as kind
use Rattle.gc_plan.proofs.StepLaws.{first_found, first_selected, least_in, least_selected}

-- ---- the rules, one after the other

after : {A : Type 0} (f : A → Plan) (o : Option A) (other : Plan) → elim o as (λ _. Plan) [ Some i ↦ f i | None ↦ other ] ≡ else_plan (option_map f o) other
after f None other = refl
after f (Some i) other = refl

pub idle_by : (σ : Shape) → plan_idle σ ≡ else_plan (removal σ) (else_plan (deflation σ) (fold_next σ))
unfolding plan_idle
idle_by σ =
    after (λ (i : ImageRow). plan.Remove i.name) (find (is_garbage σ) σ.images) _
    ∙ ap (else_plan (removal σ)) (after (λ (i : ImageRow). plan.Deflate i.name (thin_in σ (top i.slots))) (find (is_loose σ) σ.images) _
    ∙ ap (else_plan (deflation σ)) (after (λ (p : Pair). plan.Begin p.child.name p.parent.name (target σ p)) (find (fits σ) (pairs σ)) _
    ∙ ap (else_plan (folding kind.Hidden σ)) (after (λ (p : Pair). plan.Leaf p.child.name p.parent.name (target σ p)) (find (fits σ) (leaves σ)) _
    ∙ ap (else_plan (folding kind.Leaf σ)) (after (λ (p : Pair). plan.Live p.child.name p.parent.name (target σ p)) (find (fits σ) (lives σ)) _))))

-- ---- each rule by the rows

-- what a rule gives at a row
abbrev pub removed : Shape → TreeRow → Option Plan
removed σ r = given (is_garbage σ (machine_row r)) (plan.Remove (row_name r))

abbrev pub deflated : Shape → TreeRow → Option Plan
deflated σ r = given (is_loose σ (machine_row r)) (plan.Deflate (row_name r) (thin_in σ (top (slots_of r.image))))

abbrev pub folded : Kind → Shape → TreeRow → Option Plan
folded k σ r = begun_at k σ (machine_row r)

abbrev pub grown : Kind → Shape → TreeRow → Option ℕ
grown k σ r = growth_of k σ (machine_row r)

module _ (s : Site) (t : VolumeTable) (m : Known) where
  pub removal_in : removal (shape_in s t m) ≡ first_some (map (removed (shape_in s t m)) m.rows)
  unfolding shape_in
  removal_in = first_found (is_garbage (shape_in s t m)) machine_row (λ (i : ImageRow). plan.Remove i.name) m.rows

  pub deflation_in : deflation (shape_in s t m) ≡ first_some (map (deflated (shape_in s t m)) m.rows)
  unfolding shape_in
  deflation_in = first_found (is_loose (shape_in s t m)) machine_row (λ (i : ImageRow). plan.Deflate i.name (thin_in (shape_in s t m) (top i.slots))) m.rows

  pub folding_in : (k : Kind) → folding k (shape_in s t m) ≡ first_some (map (folded k (shape_in s t m)) m.rows)
  unfolding shape_in
  folding_in k = first_selected (fits (shape_in s t m)) (candidate_of k (shape_in s t m)) machine_row (begun k (shape_in s t m)) m.rows

  pub least_growth_in : (k : Kind) → least_of (shape_in s t m) (candidates k (shape_in s t m)) ≡ least_in (map (grown k (shape_in s t m)) m.rows)
  unfolding shape_in
  least_growth_in k = least_selected (shape_in s t m) (candidate_of k (shape_in s t m)) machine_row m.rows

-- ---- while an operation runs

pub link_next : (rows : List TreeRow) (n : Name) → Some n ≡ first_name rows → plan.RelinkOne n ≡ relink_or (map machine_row rows)
link_next [] n is = absurd (none-some n (sym is))
link_next (r ∷ rows) n is = ap plan.RelinkOne (same_Some n (row_name r) is)

pub link_ended : (rows : List TreeRow) → None ≡ first_name rows → plan.Finish ≡ relink_or (map machine_row rows)
link_ended [] is = refl
link_ended (r ∷ rows) is = absurd (none-some (row_name r) is)

pub copy_given_up : (σ : Shape) (n : Name) (cursor : ℕ) (is : List ImageRow) → length is ≡ 0 → plan.Abandon ≡ plan_copy σ n cursor is
copy_given_up σ n cursor [] none = refl
copy_given_up σ n cursor (i ∷ is) none = absurd (omega (arith, none))

pub copy_goes_on : (σ : Shape) (n : Name) (cursor : ℕ) (is : List ImageRow) → 0 < length is → copy_or plan.Turn (next_block cursor (table_of n σ)) ≡ plan_copy σ n cursor is
copy_goes_on σ n cursor [] some = absurd (omega (arith, some))
copy_goes_on σ n cursor (i ∷ is) some = refl

-- few blocks are dirty: the parent takes the leaf's place
pub clean_few : (dirty : List ℕ) → length dirty ≤ dirty_limit → plan.Swap ≡ clean_or dirty
clean_few [] few = refl
clean_few (b ∷ dirty) few = by (nat_lt dirty_limit (length (b ∷ dirty))) refl
  where
    by : (x : Bool) → nat_lt dirty_limit (length (b ∷ dirty)) ≡ x → plan.Swap ≡ elim x as (λ _. Plan) [ true ↦ plan.Copy b | false ↦ plan.Swap ]
    by true is = absurd (let more = ltb-true dirty_limit (length (b ∷ dirty)) is in omega (arith, few, more))
    by false is = refl

-- many are: the least of them is copied
pub clean_many : (dirty : List ℕ) (o : Option ℕ) → dirty_limit < length dirty → o ≡ least dirty → copy_or plan.Swap o ≡ clean_or dirty
clean_many [] o many is = absurd (omega (arith, many))
clean_many (b ∷ dirty) o many is =
    ap (copy_or plan.Swap) is
    ∙ sym (ap (λ x. elim x as (λ _. Plan) [ true ↦ plan.Copy b | false ↦ plan.Swap ]) (lt-ltb dirty_limit (length (b ∷ dirty)) many))
