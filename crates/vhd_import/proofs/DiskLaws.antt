-- The disk that is made of a file: whole blocks, the sectors of the file and then zeros.
use Rattle.std.proofs.Common.{◌≡◌, ℕ, ◌+◌, ◌-◌, ◌*◌, ◌<◌, ◌≤◌, List, [], ◌++◌, length, length-append, replicate, get_or, ap, ◌∙◌, arith, subst}
use Rattle.std.proofs.Math.ListN.{get_or-append}
use Rattle.std.proofs.lemmas.Grind.{div_ceil_times}
use Rattle.std.proofs.lemmas.List.{get_or-append-add, get_or-replicate, length-replicate}
use Rattle.sm_base.specs.Numbers.{div_up}
use Rattle.sm_base.proofs.NumberLemmas.{div_up-div_ceil}
use Rattle.sm_disk.specs.Sectors.{zeros}
use Rattle.vhd_stream.specs.Files.{sector_at}
use Rattle.vhd_import.specs.Verdicts.{imported}

covered : (n block : ℕ) → 0 < block → n ≤ div_up n block * block
covered n block some = subst (λ k. n ≤ k * block) (div_up-div_ceil n block some) (div_ceil_times n block some).0

pub imported-size : (block : ℕ) (uuid : List ℕ) (sectors : List (List ℕ)) → 0 < block → length (imported block uuid sectors).sectors ≡ div_up (length sectors) block * block
unfolding imported
imported-size block uuid sectors some =
    let more : ℕ = div_up (length sectors) block * block - length sectors in
    omega (arith, length-append sectors (replicate more zeros), length-replicate {A = List ℕ} more zeros, covered (length sectors) block some)

pub imported-front : (block : ℕ) (uuid : List ℕ) (sectors : List (List ℕ)) (s : ℕ) → s < length sectors → sector_at (imported block uuid sectors).sectors s ≡ sector_at sectors s
unfolding imported
imported-front block uuid sectors s low = get_or-append sectors (replicate (div_up (length sectors) block * block - length sectors) zeros) [] s low

pub imported-rest : (block : ℕ) (uuid : List ℕ) (sectors : List (List ℕ)) (s : ℕ) → length sectors ≤ s → s < div_up (length sectors) block * block → sector_at (imported block uuid sectors).sectors s ≡ zeros
unfolding imported
imported-rest block uuid sectors s from below =
    let more : ℕ = div_up (length sectors) block * block - length sectors in
    let at : s ≡ length sectors + (s - length sectors) = omega (arith, from) in
    ap (λ k. get_or (sectors ++ replicate more zeros) k []) at ∙ get_or-append-add sectors (replicate more zeros) (s - length sectors) [] ∙ get_or-replicate more (s - length sectors) zeros [] (omega (arith, from, below))
