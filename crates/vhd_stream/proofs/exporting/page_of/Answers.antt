use Rattle.std.proofs.Common.{◌≡◌, ℕ, ◌+◌, ◌-◌, ◌*◌, ◌/◌, ◌≤◌, List, ◌++◌, length, take, drop, replicate, sym, ap, ◌∙◌, arith}
use Rattle.std.proofs.Math.Seq.{take-append-add}
use Rattle.std.proofs.lemmas.List.{drop-replicate, length-replicate, take-append-le, take-replicate, take_all}
use Rattle.vhd_stream.specs.Exports.{full_bitmap}
use Rattle.vhd_stream.proofs.exporting.page_of.Goals as goal

abbrev ones : ℕ → List ℕ
ones k = replicate k 255

abbrev nils : ℕ → List ℕ
nils k = replicate k 0

bits : (k n : ℕ) → k ≤ 512 → 512 ≤ n → take 512 (ones k ++ drop k (nils n)) ≡ ones k ++ nils (512 - k)
bits k n few many =
    let long : length (ones k) ≡ k = length-replicate {A = ℕ} k 255 in
    let whole : 512 ≡ length (ones k) + (512 - k) = omega (arith, long, few) in
    ap (λ m. take m (ones k ++ drop k (nils n))) whole
    ∙ take-append-add (ones k) (drop k (nils n)) (512 - k)
    ∙ ap (λ l. ones k ++ l) (ap (take (512 - k)) (drop-replicate {X = ℕ} k n 0) ∙ take-replicate {X = ℕ} (512 - k) (n - k) 0 (omega arith))

paged : (block n : ℕ) (items page rest : List ℕ) → block ≤ 4096 → 512 ≤ n → items ≡ nils n → page ≡ ones (block / 8) ++ drop (block / 8) items → length page ≡ n → take 512 (take n (page ++ rest)) ≡ full_bitmap block
unfolding full_bitmap
paged block n items page rest few many zeros is long =
    let eighth : block / 8 ≤ 512 = omega arith in
    ap (take 512) (take-append-le n page rest (omega (arith, long)) ∙ take_all n page (omega (arith, long)))
    ∙ ap (take 512) (is ∙ ap (λ l. ones (block / 8) ++ drop (block / 8) l) zeros) ∙ bits (block / 8) n eighth many

pub returns-clause-bitmap : goal.returns-clause-bitmap
returns-clause-bitmap c =
    let e = c.in-Ok.ensures in
    let long : c.in-Ok.page.len ≡ 512 + 512 * c.args.block = e.len in
    paged c.args.block c.in-Ok.page.len c.in-Ok.page.items c.set_bits.new.page _ c.requires (omega (arith, long)) (e.items_if_clones_equal (λ y same. same) ∙ ap nils (sym long))
    (c.set_bits.ensures ∙ ap (λ l. ones (c.args.block / 8) ++ drop (c.args.block / 8) l) c.deref_mut.ensures.value) (c.set_bits.auto.page ∙ c.deref_mut.ensures.len)
