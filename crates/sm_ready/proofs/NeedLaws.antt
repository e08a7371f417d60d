-- What a command takes of extents is below 2^32, where its size is not bad.
use Rattle.std.proofs.Common.{◌≡◌, inl, inr, ℕ, ◌+◌, ◌-◌, ◌*◌, ◌^◌, ◌<◌, ◌≤◌, ◌==◌, ◌||◌, Bool, true, false, cond, nat_lt, List, [], ◌∷◌, Option, Some, None, refl, sym, subst, arith}
use Rattle.std.proofs.Math.Logic.{∥∥₁_elim}
use Rattle.std.proofs.Math.Nat.{mul-lt-mul_of_pos_right}
use Rattle.std.proofs.Props.{props}
use Rattle.std.proofs.lemmas.Bool.{or_parts, ltb-false, cases_lt}
use Rattle.std.proofs.lemmas.Nat.{mul-le}
use Rattle.common_laws.specs.Lists.{In}
use Rattle.common_laws.proofs.Lists.{find-some}
use Rattle.sm_base.specs.Limits.{extent_limit}
use Rattle.sm_base.specs.Numbers.{IsGeometry, div_up, first, thin, thick}
use Rattle.sm_base.specs.declared.operations.Mode.TheVariants.{Ro, Rw}
use Rattle.sm_base.proofs.NumberLemmas.{blocks-le, div_up-le, image_fits}
use Rattle.vg_meta.specs.Tables.{VolumeTable}
use Rattle.vg_volumes.specs.Sites.{Site}
use Rattle.std.specs.List.{find}
use Rattle.sm_log.specs.Logs.{Log, is_log_of, log_extents, piece_count}
use Rattle.sm_machine.specs.Refusals.{disk_pieces, log_room, fork_need, is_bad, is_bad_size, log_need, of_log, lacking, lacking_larger, need, new_extents, rounded, wanted, with_image_of}
use Rattle.sm_machine.specs.Shapes.{ImageRow, Shape, attached_as, disk_image, is_image_of, is_rw, is_vhd, thick_in, thin_in}
use Rattle.sm_machine.specs.WellFormed.{IsWellFormed}
use Rattle.sm_machine.specs.declared.commands.Command.{Command}
use Rattle.sm_machine.specs.declared.commands.Command.TheVariants.{Create, Attach, Resize, Snapshot, Clone, Track}
use Rattle.sm_ready.specs.Known.{Known, shape_in}
use Rattle.sm_ready.specs.Orderly.{IsOrderly}

pub thin_few : (extent block entries slots : ℕ) → IsGeometry extent block entries → slots ≤ entries → thin extent block entries slots ≤ 2 ^ 27
unfolding thin
thin_few extent block entries slots g within =
    let fits = image_fits extent block entries slots g within in
    div_up-le (first entries + slots * (1 + block) + 1) extent (2 ^ 27) (omega (arith, g.extent_least)) (omega (arith, fits, g.extent_least))

pub thick_few : (extent block entries sectors : ℕ) → IsGeometry extent block entries → sectors ≤ entries * block → thick extent block entries sectors ≤ 2 ^ 27
unfolding thick
thick_few extent block entries sectors g within = thin_few extent block entries (div_up sectors block) g (blocks-le sectors block entries (omega (arith, g.block_least)) within)

-- a VHD disk's size that is not bad is within the blocks of a table
pub is_within : (σ : Shape) (size : ℕ) → is_bad σ false size ≡ false → rounded σ false size ≤ σ.entries * σ.block
is_within σ size good =
    let n = rounded σ false size in
    ltb-false (σ.entries * σ.block) n (or_parts (size == 0) _ (or_parts ((size == 0) || nat_lt (σ.entries * σ.block) n) _ good).0).1

-- one log has no more extents than all of them
log_case : (l : Log) (logs : List Log) (b : Bool) (o : Option Log) → of_log (λ (x : Log). x.extents) o ≤ log_extents logs → of_log (λ (x : Log). x.extents) (cond b (Some l) o) ≤ l.extents + log_extents logs
log_case l logs true o h = omega arith
log_case l logs false o h = omega (arith, h)

log_within : (p : Log → Bool) (logs : List Log) → of_log (λ (x : Log). x.extents) (find p logs) ≤ log_extents logs
unfolding log_extents
log_within p [] = omega arith
log_within p (l ∷ logs) = log_case l logs (p l) (find p logs) (log_within p logs)

module _ (σ : Shape) (w : IsWellFormed σ) where
  few_of : (f : ImageRow → ℕ) (u : List ℕ) (most : ℕ) → 0 < most → ((i : ImageRow) → In i σ.images → f i < most) → with_image_of f (disk_image u σ) < most
  few_of f u most some few = by (disk_image u σ) refl
    where
      by : (x : Option ImageRow) → disk_image u σ ≡ x → with_image_of f x < most
      by None is = some
      by (Some i) is = few i (find-some (is_image_of u) σ.images i is).0

  pub thick_row : (i : ImageRow) → In i σ.images → thick_in σ i.size ≤ 2 ^ 27
  thick_row i at =
      let size = (w.images i at).whole in
      thick_few σ.extent σ.block σ.entries i.size w.geometry (subst (λ k. k ≤ σ.entries * σ.block) (sym size.1) (mul-le size.0 σ.block σ.entries σ.block size.3 (omega arith)))

  few_lacking : (i : ImageRow) → In i σ.images → lacking σ i < 2 ^ 32
  few_lacking i at = by (is_vhd i.name)
    where
      by : (b : Bool) → elim b as (λ _. ℕ) [ true ↦ thick_in σ i.size - i.extents | false ↦ 0 ] < 2 ^ 32
      by true = omega (arith, thick_row i at)
      by false = omega arith

  few_larger : (u : List ℕ) (size : ℕ) → size ≤ σ.entries * σ.block → (i : ImageRow) → lacking_larger σ u size i < 2 ^ 32
  few_larger u size within i = by (is_rw (attached_as u σ)) (is_vhd i.name)
    where
      by : (a b : Bool) → elim a as (λ _. ℕ) [ true ↦ elim b as (λ _. ℕ) [ true ↦ thick_in σ size - i.extents | false ↦ 0 ] | false ↦ 0 ] < 2 ^ 32
      by true true = omega (arith, thick_few σ.extent σ.block σ.entries size w.geometry within)
      by true false = omega arith
      by false b = omega arith

  few_thin : thin_in σ 0 ≤ 2 ^ 27
  few_thin = thin_few σ.extent σ.block σ.entries 0 w.geometry (omega arith)

  few_fork : (u : List ℕ) (i : ImageRow) → In i σ.images → fork_need σ u i < 2 ^ 29
  few_fork u i at = by (is_rw (attached_as u σ))
    where
      by : (b : Bool) → wanted σ b i.size + thin_in σ 0 < 2 ^ 29
      by true = omega (arith, thick_row i at, few_thin)
      by false = omega (arith, few_thin)

  few_pieces : (u : List ℕ) → disk_pieces u σ < 2 ^ 26
  few_pieces u = few_of (λ i. piece_count i.size) u (2 ^ 26) (omega arith) (λ i at.
      let whole = (w.images i at).whole in
      let size : i.size ≤ σ.entries * σ.block = subst (λ k. k ≤ σ.entries * σ.block) (sym whole.1) (mul-le whole.0 σ.block σ.entries σ.block whole.3 (omega arith)) in
      let most : σ.entries * σ.block ≤ 1044480 * 4096 = mul-le σ.entries σ.block 1044480 4096 w.geometry.entries_most w.geometry.block_most in
      let pieces : piece_count i.size ≤ 2 ^ 25 = div_up-le i.size 128 (2 ^ 25) (omega arith) (omega (arith, size, most)) in
      omega (arith, pieces))

  few_room : (u : List ℕ) → log_room σ u < 2 ^ 32
  few_room u =
      let n : ℕ = div_up (disk_pieces u σ) 4096 in
      let bits : n ≤ 2 ^ 14 = div_up-le (disk_pieces u σ) 4096 (2 ^ 14) (omega arith) (omega (arith, few_pieces u)) in
      let room : log_room σ u ≤ 2 ^ 15 = div_up-le (1 + n) σ.extent (2 ^ 15) (omega (arith, w.geometry.extent_least)) (omega (arith, bits, w.geometry.extent_least)) in
      omega (arith, room)

  few_raw : (size : ℕ) → σ.extents ≤ extent_limit → ((size == 0) || nat_lt (σ.entries * σ.block) (rounded σ true size) || nat_lt (σ.extents * σ.extent) (rounded σ true size)) ≡ false → new_extents σ true size < 2 ^ 32
  unfolding rounded
  few_raw size most good =
      let n = new_extents σ true size in
      let within : n * σ.extent ≤ σ.extents * σ.extent = ltb-false (σ.extents * σ.extent) (n * σ.extent) (or_parts ((size == 0) || nat_lt (σ.entries * σ.block) (n * σ.extent)) _ good).1 in
      elim (cases_lt σ.extents n) [
        | inl over ↦ absurd (omega (arith, within, mul-lt-mul_of_pos_right {k = σ.extent} over (omega (arith, w.geometry.extent_least))))
        | inr under ↦ omega (arith, under, most)
      ]

  few_need : (c : Command) → σ.extents ≤ extent_limit → log_extents σ.logs ≤ σ.others → is_bad_size σ c ≡ false → need σ c < 2 ^ 32
  unfolding need log_need is_bad_size
  few_need (Create u size true label) most logs good = few_raw size most good
  few_need (Create u size false label) most logs good = omega (arith, few_thin)
  few_need (Attach u Rw) most logs good = few_of (lacking σ) u (2 ^ 32) (omega arith) few_lacking
  few_need (Attach u Ro) most logs good = omega arith
  few_need (Resize u size) most logs good = few_of (lacking_larger σ u (rounded σ false size)) u (2 ^ 32) (omega arith) (λ i at. few_larger u (rounded σ false size) (is_within σ size good) i)
  few_need (Snapshot u twin) most logs good =
      let fork : with_image_of (fork_need σ u) (disk_image u σ) < 2 ^ 29 = few_of (fork_need σ u) u (2 ^ 29) (omega arith) (few_fork u) in
      omega (arith, fork, log_within (is_log_of u) σ.logs, logs, w.room, most)
  few_need (Clone u twin) most logs good =
      let fork : with_image_of (fork_need σ u) (disk_image u σ) < 2 ^ 29 = few_of (fork_need σ u) u (2 ^ 29) (omega arith) (few_fork u) in
      omega (arith, fork)
  few_need (Track u true) most logs good = few_room u
  few_need _ most logs good = omega arith

-- the extents that a command takes are below 2^32
pub need_few : (s : Site) (t : VolumeTable) (m : Known) (c : Command) → IsOrderly s t m → is_bad_size (shape_in s t m) c ≡ false → need (shape_in s t m) c < 2 ^ 32
unfolding shape_in
need_few s t m c o good = ∥∥₁_elim o.well_formed (hlevel props) (λ w. few_need (shape_in s t m) w c o.few_extents (omega arith) good)
