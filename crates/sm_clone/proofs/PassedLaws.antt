-- What is known of a fork that no cause refuses: the disk's image, the twin's UUID, and the extents that the two images take.
use Rattle.std.proofs.Common.{◌≡◌, ℕ, ◌+◌, ◌-◌, ◌++◌, ◌^◌, ◌<◌, ◌≤◌, Bool, true, false, List, length, is_none, Some, None, refl, sym, ap, ap₂, ◌∙◌, subst, subst₂, arith}
use Rattle.std.proofs.Math.Logic.{∥∥₁_elim}
use Rattle.std.proofs.Props.{props}
use Rattle.std.proofs.lemmas.Bool.{true≢false}
use Rattle.sm_base.specs.Numbers.{thin}
use Rattle.sm_base.specs.declared.sizes.Geometry.{Geometry}
use Rattle.vg_extents.specs.Fits.{AreLeastFree}
use Rattle.vg_meta.specs.Changes.{AreFree}
use Rattle.vg_meta.specs.Tables.{VolumeTable, free as free_of}
use Rattle.vg_volumes.specs.Sites.{Site}
use Rattle.vhd_chain.specs.Trees.{row_name, tree_row}
use Rattle.sm_machine.specs.Commits.{own_commits}
use Rattle.sm_machine.specs.Refusals.{fork_need, images_needed, is_bad_size, is_unknown, named, need, new_uuid, of_some, refusal, wanted, with_image_of}
use Rattle.sm_machine.specs.Shapes.{Shape, attached_as, disk_image, disk_record, is_rw, thin_in}
use Rattle.sm_machine.specs.Steps.{fork_shape, shape_after}
use Rattle.sm_machine.specs.declared.commands.Command.TheVariants.{Clone}
use Rattle.sm_ready.specs.Known.{Known, shape_in}
use Rattle.sm_ready.specs.Orderly.{IsOrderly}
use Rattle.sm_ready.specs.Ready.{IsTidy}
use Rattle.sm_machine.proofs.Passed.{passed}
use Rattle.sm_mgt.specs.Places.{record_in}
use Rattle.sm_ready.proofs.LookLaws.{record_is}
use Rattle.sm_ready.proofs.NeedLaws.{need_few}
use Rattle.sm_ready.proofs.OwnLaws.{IsOwn, named_known, own_image, own_name as name_of, own_row}
use Rattle.sm_ready.proofs.RefusalLaws.{IsNewUuid, new_passed}
use Rattle.sm_ready.proofs.RowLaws.{tree_found}
use Rattle.sm_clone.specs.Forking.{AreForFork, Passes, forking, own_name, sectors_of}

-- ---- the command, whether it is a snapshot or a clone

named_is : (u twin : List ℕ) (b : Bool) → named (forking u twin b) ≡ Some u
unfolding named
named_is u twin true = refl
named_is u twin false = refl

new_is : (u twin : List ℕ) (b : Bool) → new_uuid (forking u twin b) ≡ Some twin
unfolding new_uuid
new_is u twin true = refl
new_is u twin false = refl

pub makes_two : (u twin : List ℕ) (b : Bool) → images_needed (forking u twin b) ≡ 2
unfolding images_needed
makes_two u twin true = refl
makes_two u twin false = refl

-- a clone takes the extents of the two images; a snapshot takes those of its log too
need_clone : (σ : Shape) (u twin : List ℕ) → need σ (Clone u twin) ≡ with_image_of (fork_need σ u) (disk_image u σ)
unfolding need
need_clone σ u twin = refl

need_least : (σ : Shape) (u twin : List ℕ) (b : Bool) → need σ (Clone u twin) ≤ need σ (forking u twin b)
unfolding need
need_least σ u twin true = omega arith
need_least σ u twin false = omega arith

good_size : (σ : Shape) (u twin : List ℕ) → is_bad_size σ (Clone u twin) ≡ false
unfolding is_bad_size
good_size σ u twin = refl

pub eight : (σ : Shape) (u twin : List ℕ) (b : Bool) → own_commits σ (forking u twin b) ≡ 8
unfolding own_commits
eight σ u twin true = refl
eight σ u twin false = refl

pub forked_after : (σ : Shape) (u twin : List ℕ) (b : Bool) → shape_after σ (forking u twin b) ≡ fork_shape σ u twin b
unfolding shape_after
forked_after σ u twin true = refl
forked_after σ u twin false = refl

pub thin_is : (s : Site) (t : VolumeTable) (m : Known) (g : Geometry) → g ≡ s.geometry → thin g.extent g.block g.entries 0 ≡ thin_in (shape_in s t m) 0
unfolding shape_in
thin_is s t m g is = ap (λ (x : Geometry). thin x.extent x.block x.entries 0) is

-- ---- where no cause refuses it

-- a fork is given no size
pub no_size : (σ : Shape) (u twin : List ℕ) → is_bad_size σ (Clone u twin) ≡ false
unfolding is_bad_size
no_size σ u twin = refl

-- where nothing was given up, the number is the table's
pub passes_now : {s : Site} {t : VolumeTable} {m : Known} {u twin : List ℕ} {read_only : Bool}
    → IsOrderly s t m → refusal (shape_in s t m) (forking u twin read_only) ≡ None → Passes s t m u twin read_only
passes_now {t = t} o none = record { number = t.sequence; below = omega arith; above = omega arith; orderly = o; unrefused = none }

module _ (s : Site) (t : VolumeTable) (m : Known) (u twin : List ℕ) (read_only : Bool) (o : IsOrderly s t m) (tidy : IsTidy t m) (passes : Passes s t m u twin read_only) where
  -- the table by the number that names the base
  abbrev pub numbered : VolumeTable
  numbered = record t { sequence = passes.number }

  tidy_numbered : IsTidy numbered m
  tidy_numbered = record { none_new = tidy.none_new; no_stray = tidy.no_stray }

  pub own : IsOwn m u
  own = own_row s numbered m (forking u twin read_only) u passes.orderly passes.unrefused (named_is u twin read_only)

  pub own_is : own_name m.rows u ≡ row_name own.row
  own_is = name_of s t m u (own_name m.rows u) o own refl

  pub found : tree_row m.rows (own_name m.rows u) ≡ Some own.row
  unfolding shape_in
  found = ∥∥₁_elim o.well_formed (hlevel props) (λ w. ap (tree_row m.rows) own_is ∙ tree_found m.rows own.row w.one_image own.there)

  pub new : IsNewUuid s numbered m (forking u twin read_only) twin
  new = new_passed s numbered m (forking u twin read_only) twin passes.orderly tidy_numbered (new_is u twin read_only) passes.unrefused

  -- the commits do not spend the numbers
  pub unspent : t.sequence ≤ 2 ^ 48 - 16
  unspent = let few = new.unspent in let most = passes.above in omega (arith, few, most)

  -- the disk has a record
  pub recorded : record_in m.places u ≡ None → ⊥
  unfolding is_unknown
  recorded none = true≢false (sym (ap is_none (record_is s numbered m u None passes.orderly tidy_numbered none))
      ∙ named_known (shape_in s numbered m) (forking u twin read_only) u (named_is u twin read_only) (passed (shape_in s numbered m) (forking u twin read_only) passes.unrefused).unknown)

  -- it takes what the disk's image wants, and what an image has without slots
  pub need_is : need (shape_in s t m) (Clone u twin)
      ≡ wanted (shape_in s t m) (is_rw (attached_as u (shape_in s t m))) (sectors_of (tree_row m.rows (own_name m.rows u))) + thin_in (shape_in s t m) 0
  need_is =
      need_clone (shape_in s t m) u twin
      ∙ ap (with_image_of (fork_need (shape_in s t m) u)) (own_image s t m u o own)
      ∙ ap (λ k. wanted (shape_in s t m) (is_rw (attached_as u (shape_in s t m))) k + thin_in (shape_in s t m) 0) (sym (ap sectors_of found))

  pub few : need (shape_in s t m) (Clone u twin) < 2 ^ 32
  few = need_few s t m (Clone u twin) o (good_size (shape_in s t m) u twin)

  pub enough : need (shape_in s t m) (Clone u twin) ≤ length (free_of s.count t)
  unfolding shape_in free_of
  enough =
      let most : need (shape_in s numbered m) (forking u twin read_only) ≤ length (free_of s.count t) = new.enough in
      let least : need (shape_in s numbered m) (Clone u twin) ≤ need (shape_in s numbered m) (forking u twin read_only) = need_least (shape_in s numbered m) u twin read_only in
      let same : need (shape_in s numbered m) (Clone u twin) ≡ need (shape_in s t m) (Clone u twin) = need_clone (shape_in s numbered m) u twin ∙ sym (need_clone (shape_in s t m) u twin) in
      omega (arith, most, least, same)

  -- the extents that were found are those of the two images
  pub for_fork : (all more count : ℕ) (k : VolumeTable) (own_es twin_es : List ℕ) → count ≡ s.count → k ≡ t → all ≡ need (shape_in s t m) (Clone u twin) → more ≡ thin_in (shape_in s t m) 0
      → length own_es ≡ all - more → length twin_es ≡ more → AreLeastFree count (all - more + more) k (own_es ++ twin_es) → AreFree count k.volumes (own_es ++ twin_es)
      → AreForFork s t (shape_in s t m) u (sectors_of (tree_row m.rows (own_name m.rows u))) own_es twin_es
  for_fork all more count k own_es twin_es counted table is thin long longer least unused = record {
    least = subst₂ (λ (n : ℕ) (v : VolumeTable). AreLeastFree n (length own_es + length twin_es) v (own_es ++ twin_es)) counted table
        (subst (λ n. AreLeastFree count n k (own_es ++ twin_es)) (ap₂ (λ a b. a + b) (sym long) (sym longer)) least);
    extents_free = subst₂ (λ (n : ℕ) (v : VolumeTable). AreFree n v.volumes (own_es ++ twin_es)) counted table unused;
    own_many = omega (arith, long, is, thin, need_is);
    twin_many = longer ∙ thin;
  }
