-- A write marks the blocks that it reaches, one after the other.
use Rattle.std.proofs.Common.{◌≡◌, ℕ, zero, suc, ◌+◌, ◌-◌, ◌/◌, ◌<◌, ◌≤◌, true, List, [], ◌∷◌, ◌++◌, refl, sym, ap, ap₂, ◌∙◌, arith}
use Rattle.std.proofs.Math.Logic.{∥∥₁_elim}
use Rattle.std.proofs.Props.{props}
use Rattle.std.proofs.lemmas.Nat.{div_below}
use Rattle.common_laws.specs.Lists.{In, numbers}
use Rattle.common_laws.proofs.Lists.{In-map_at}
use Rattle.vg_meta.specs.Tables.{VolumeTable}
use Rattle.vg_volumes.specs.Sites.{Site}
use Rattle.vhd_image.specs.Bodies.{sector_count}
use Rattle.vhd_chain.specs.declared.rows.TreeRow.{TreeRow}
use Rattle.sm_machine.specs.Commits.{folds}
use Rattle.sm_machine.specs.Operations.{Op, touched}
use Rattle.sm_machine.specs.Steps.{written_op}
use Rattle.sm_ready.specs.Known.{Known, machine_row, shape_in}
use Rattle.sm_ready.specs.Orderly.{IsOrderly}
use Rattle.sm_machine.proofs.Told.{folds_written, written_more, written_none, written_touched}

-- one number more comes last
numbers_more : (a n : ℕ) → numbers a (n + 1) ≡ numbers a n ++ (a + n) ∷ []
unfolding numbers
numbers_more a zero = ap (λ k. k ∷ []) (omega arith)
numbers_more a (suc n) =
    ap (numbers a) (let e : suc n + 1 ≡ suc (n + 1) = omega arith in e)
    ∙ ap (λ (xs : List ℕ). a ∷ xs) (numbers_more (a + 1) n ∙ ap (λ k. numbers (a + 1) n ++ k ∷ []) (let e : a + 1 + n ≡ a + suc n = omega arith in e))

-- one block more is marked
pub marked_more : (u : List ℕ) (first block : ℕ) (was now : Op) → folds was u ≡ true → first ≤ block → now ≡ written_op u (numbers first (block - first)) was
    → touched block now ≡ written_op u (numbers first (block + 1 - first)) was
marked_more u first block was now folded up is =
    let bs = numbers first (block - first) in
    let last : written_op u (block ∷ []) (written_op u bs was) ≡ touched block (written_op u bs was) =
    written_touched u block [] (written_op u bs was) (folds_written u u bs was ∙ folded) ∙ written_none u (touched block (written_op u bs was)) in
    ap (touched block) is ∙ sym last ∙ sym (written_more u bs (block ∷ []) was)
    ∙ ap (λ (xs : List ℕ). written_op u xs was)
    (sym (ap (λ k. numbers first k) (let e : block + 1 - first ≡ block - first + 1 = omega (arith, up) in e) ∙ numbers_more first (block - first)
    ∙ ap (λ k. bs ++ k ∷ []) (let e : first + (block - first) ≡ block = omega (arith, up) in e)))

-- the blocks of an image are fewer than an image may have
pub few_blocks : (s : Site) (t : VolumeTable) (m : Known) (r : TreeRow) (at n : ℕ) → IsOrderly s t m → In r m.rows → 0 < n → at + n ≤ sector_count r.image → (at + n - 1) / s.geometry.block + 1 ≤ 1044480
unfolding shape_in
few_blocks s t m r at n o there some fits = ∥∥₁_elim o.well_formed (hlevel props) (λ w.
    let size = (w.images (machine_row r) (In-map_at machine_row m.rows r there)).whole in
    let g = w.geometry in
    let least = g.block_least in
    let most = g.entries_most in
    let last = div_below (at + n - 1) s.geometry.block size.0 (omega (arith, least)) (let e = size.1 in omega (arith, e, fits, some)) in
    let few = size.3 in omega (arith, last, few, most))
