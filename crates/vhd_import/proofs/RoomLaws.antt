-- A file that puts sectors of a disk alone needs no more room than the disk.
use Rattle.std.proofs.Common.{◌≡◌, ℕ, zero, suc, ◌+◌, ◌-◌, ◌*◌, ◌<◌, ◌≤◌, true, false, List, length, Option, Some, None, refl, sym, ap, ◌∙◌, arith}
use Rattle.std.specs.Prelude.{nat_lt, ◌==◌}
use Rattle.std.specs.List.{filter_map, list_any}
use Rattle.std.proofs.Math.Nat.{mul-le-mul}
use Rattle.std.proofs.lemmas.Bool.Decides.{nat_tests}
use Rattle.common_laws.specs.Lists.{numbers, ◌>>=◌}
use Rattle.common_laws.proofs.Lists.{In-numbers, numbers-In}
use Rattle.common_laws.proofs.Options.{bind-some}
use Rattle.sm_base.specs.Numbers.{IsGeometry, div_up, first, thin}
use Rattle.vhd_stream.specs.Files.{File}
use Rattle.vhd_import.specs.Laws.{HasRoomFor, filled_blocks, sector_put}
use Rattle.vhd_import.specs.Puts.{Put, put_at}
use Rattle.vhd_import.specs.Room.{Target, block_of, distinct_blocks, extents_for, filled_at, is_too_large, lacks, lacks_space, used}
use Rattle.vhd_import.proofs.PutLaws.{IsOf, PutsOnly}
use Rattle.vhd_import.proofs.TestLaws.{any-given, count_by-more, given-any, le-div}

pub used-within : (t : Target) (file : File) (sectors : List (List ℕ)) (count : ℕ) → PutsOnly file sectors → count ≤ length file → used t file count ≤ filled_blocks t sectors
unfolding used filled_blocks distinct_blocks filled_at
used-within t file sectors count puts within = count_by-more _ _ (numbers 0 t.entries) more
  where
    disk : ℕ → Option ℕ
    disk s = block_of t (sector_put sectors s)

    same-put : (p : Put) → IsOf sectors p → p ≡ sector_put sectors p.sector
    same-put p is = ap (λ bytes. record { sector = p.sector; bytes = bytes }) is.same

    more : (b : ℕ) → list_any (λ c. c == b) (filter_map (filled_at t file) (numbers 0 count)) ≡ true → list_any (λ c. c == b) (filter_map disk (numbers 0 (length sectors))) ≡ true
    more b h =
        let k = any-given (filled_at t file) (numbers 0 count) b h in
        let n = In-numbers 0 count k.0 k.1 in
        let p = bind-some (put_at file k.0) (block_of t) b k.2 in
        let e : block_of t p.0 ≡ Some b = ap (λ (o : Option Put). o >>= block_of t) (sym p.1) ∙ k.2 in
        let is = puts k.0 p.0 (omega (arith, n.1, within)) p.1 in
        given-any disk (numbers 0 (length sectors)) p.0.sector b (numbers-In 0 (length sectors) p.0.sector (omega arith) (omega (arith, is.within))) (ap (block_of t) (sym (same-put p.0 is)) ∙ e)

-- ---- extents

thin-more : (t : Target) (a b : ℕ) → IsGeometry t.extent t.block t.entries → a ≤ b → extents_for t a ≤ extents_for t b
unfolding thin div_up
thin-more t a b g less =
    let more : a * (1 + t.block) ≤ b * (1 + t.block) = mul-le-mul less (omega arith) in
    let least = g.extent_least in
    le-div (first t.entries + a * (1 + t.block) + 1 + t.extent - 1) (first t.entries + b * (1 + t.block) + 1 + t.extent - 1) t.extent (omega (arith, least)) (omega (arith, more))

enough : (need free : ℕ) → need ≤ free → lacks need free ≡ None
enough need free h = let e : nat_lt free need ≡ false = grind (arith, nat_tests) in rw e refl

pub roomy : (t : Target) (file : File) (sectors : List (List ℕ)) (k : ℕ) → HasRoomFor t sectors → PutsOnly file sectors → k < length file → lacks_space t file k ≡ None
unfolding lacks_space
roomy t file sectors zero room puts less = enough (extents_for t 0) t.free (let m = thin-more t 0 (filled_blocks t sectors) room.geometry (omega arith) in omega (arith, m, room.space))
roomy t file sectors (suc k) room puts less =
    let some = used-within t file sectors (suc (suc k)) puts (omega (arith, less)) in
    let m = thin-more t (used t file (suc (suc k))) (filled_blocks t sectors) room.geometry some in
    enough (extents_for t (used t file (suc (suc k))) - extents_for t (used t file (suc k))) (t.free - extents_for t (used t file (suc k))) (omega (arith, m, room.space))

-- ---- size

pub fits-size : (t : Target) (size : ℕ) (k : ℕ) → IsGeometry t.extent t.block t.entries → div_up size t.block ≤ t.entries → k ≤ size → is_too_large t k ≡ false
unfolding div_up
fits-size t size k g fits less =
    let least = g.block_least in
    let m = le-div (k + t.block - 1) (size + t.block - 1) t.block (omega (arith, least)) (omega (arith, less)) in
    grind (arith, nat_tests)
