-- Behind the last commit the image is read in all its extents: it says what it said, and memory is ready.
use Rattle.std.proofs.Common.{◌≡◌, ◌≢◌, ⊎_elim, ℕ, ◌+◌, ◌-◌, ◌*◌, ◌/◌, ◌<◌, ◌≤◌, true, false, List, length, Some, refl, sym, ap, ◌∙◌, subst, arith}
use Rattle.std.proofs.Math.Nat.{mul-le-mul_right}
use Rattle.std.proofs.lemmas.Bool.{true≢false}
use Rattle.std.proofs.lemmas.List.{length-append}
use Rattle.std.proofs.lemmas.Option.{same_Some}
use Rattle.sm_base.specs.Kinds.{is_entry}
use Rattle.sm_base.specs.Numbers.{IsGeometry}
use Rattle.sm_base.specs.declared.names.Name.{Name}
use Rattle.sm_base.specs.declared.names.Name.TheVariants.{Mgt, Vhd, Cbt, Inflate}
use Rattle.sm_disk.specs.Held.{Held, Allows, IsSettled, Keeps, reads}
use Rattle.sm_disk.proofs.HeldLaws.{Keeps-then}
use Rattle.vg_meta.specs.Tables.{Row, VolumeTable, extents_of, rows}
use Rattle.vg_meta.specs.Changes.{grown}
use Rattle.vg_volumes.specs.Sites.{Site, size_of, volume_of}
use Rattle.vg_volumes.specs.Volumes.{KeepsAt, KeepsElsewhere, span, volume}
use Rattle.vg_volumes.proofs.VolumeLaws.{IsSettled-volume, Keeps-volume, KeepsAt-keeps, KeepsAt-then}
use Rattle.vhd_layout.specs.Contents.{content_at, own as own_at, parent_at, size_at, slot_at, slot_number, slots_at, ImageContent}
use Rattle.vhd_layout.specs.Layouts.{Sectors, layout_of}
use Rattle.vhd_volumes.specs.Steady.{IsSteadyIn}
use Rattle.vhd_volumes.specs.Truth.{IsStanding}
use Rattle.vhd_volumes.specs.Writes.{KeepsBut}
use Rattle.vhd_image.specs.Bodies.{IfVhd, StandsIn}
use Rattle.vhd_image.specs.declared.images.Body.TheVariants as body
use Rattle.vhd_image.specs.Changes.{EndsAt, StaysTrueIn}
use Rattle.vhd_image.specs.Steady.{IsSteady}
use Rattle.vhd_image.proofs.SteadyLaws.{body_keeps, steady_at_end, steady_ended, steady_kept}
use Rattle.vhd_chain.specs.Trees.{row_name}
use Rattle.vhd_chain.specs.declared.rows.TreeRow.{TreeRow}
use Rattle.sm_machine.specs.WellFormed.{is_image_name}
use Rattle.sm_mgt.specs.Places.{records_held}
use Rattle.sm_standing.specs.Contents.{Content, sectors_of}
use Rattle.sm_standing.specs.Images.{image_of}
use Rattle.sm_standing.specs.Standing.{disks}
use Rattle.sm_standing.proofs.ImageSectors.{image_same}
use Rattle.sm_ready.specs.Done.{at_rest}
use Rattle.sm_ready.specs.Known.{Known}
use Rattle.sm_ready.specs.Ready.{IsReady}
use Rattle.sm_ready.specs.Stores.{content_now}
use Rattle.sm_ready.proofs.CommitLaws.{volume_rested}
use Rattle.sm_ready.proofs.LeftLaws.{IsVhdIn, left_in, left_now, now_sector, size_there, vhd_allowed, vhd_in, vhd_of}
use Rattle.sm_ready.proofs.LogLaws.{holds_ready, logged_as}
use Rattle.sm_ready.proofs.LogRows.{image_apart}
use Rattle.sm_ready.proofs.OperationLaws.{below_alike}
use Rattle.sm_ready.proofs.Orders.{In-tree_row, geometry_of, named_row, whole}
use Rattle.sm_ready.proofs.RestLaws.{agrees_keeps, keeps_rest}
use Rattle.sm_ready.proofs.Steadies.{steady_size, steady_valid}
use Rattle.sm_space.proofs.MomentLaws.{beside_it, front_written, longer}
use Rattle.sm_space.proofs.MomentLaws as moment
use Rattle.sm_space.proofs.OrderlyLaws.{IsToGrow, after, ended, ended_other, ended_own, larger, larger_own, only, orderly_ended, own}
use Rattle.sm_space.proofs.SizedLaws.{In-turned, IsTurned, sized, turned_same}
use Rattle.sm_space.proofs.TurnedLaws.{IsTurnedTo, disks_turned, images_turned}

-- in more sectors or in fewer an image says the same where its footer gives one size
pub content_ends : (block entries n k : ℕ) (v : Sectors) → size_at n v ≡ size_at k v → content_at block entries n v ≡ content_at block entries k v
unfolding slot_at slot_number
content_ends block entries n k v same =
    ap (λ z. let x : ImageContent = record { size = z; parent = parent_at v; slots = slots_at (layout_of block entries (z / block) n) v; own = own_at block z v } in x) same

module _ (s : Site) (t : VolumeTable) (m : Known) (u es : List ℕ) (row : TreeRow) (h : IsToGrow s t m u es row) (old : Held) (ready : IsReady s t old m)
    (area : Held) (beside : KeepsElsewhere s.geometry.extent (extents_of (rows (larger s t m u es row h) (Vhd u))) (at_rest (reads old)) area)
    (but : KeepsBut (λ p. p ≡ (row.extents + length es) * s.geometry.extent - 1) (volume_of s (larger s t m u es row h) (at_rest (reads old)) (Vhd u)) (volume_of s (larger s t m u es row h) area (Vhd u)))
    (stays : IfVhd row.image (λ head slots. StaysTrueIn s.geometry head slots (volume_of s (larger s t m u es row h) (at_rest (reads old)) (Vhd u)) (volume_of s (larger s t m u es row h) area (Vhd u))))
    (ends : IfVhd row.image (λ head slots. EndsAt s.geometry ((row.extents + length es) * s.geometry.extent) head slots (volume_of s (larger s t m u es row h) (at_rest (reads old)) (Vhd u)) (volume_of s (larger s t m u es row h) area (Vhd u)))) where
  abbrev was : Content
  was = content_now s t old

  abbrev pub last : Held
  last = at_rest (reads area)

  abbrev now : Content
  now = content_now s (ended s t m u es row h) last

  ok : IsGeometry s.geometry.extent s.geometry.block s.geometry.entries
  ok = geometry_of s t m h.orderly

  -- ---- each other volume holds what it held

  other_keeps : (n : Name) → n ≢ Vhd u → n ≢ Inflate u row.extents → Keeps (volume_of s t old n) (volume_of s (ended s t m u es row h) last n)
  other_keeps n away none =
      let first : Keeps (volume_of s t old n) (volume_of s t (at_rest (reads old)) n) = Keeps-volume s.geometry.extent (extents_of (rows t n)) (keeps_rest old) in
      let next = subst (λ o. Keeps (volume s.geometry.extent (extents_of o) (at_rest (reads old))) (volume s.geometry.extent (extents_of o) area)) (moment.larger_other s t m u es row h old ready n none away)
      (beside_it s t m u es row h old ready area beside n away) in
      let then = Keeps-volume s.geometry.extent (extents_of (rows t n)) (keeps_rest area) in
      subst (λ o. Keeps (volume_of s t old n) (volume s.geometry.extent (extents_of o) last)) (sym (ended_other s t m u es row h n away)) (Keeps-then first (Keeps-then next then))

  other_sector : (n : Name) → n ≢ Vhd u → n ≢ Inflate u row.extents → (p : ℕ) → p < size_of s t n → sectors_of now n p ≡ sectors_of was n p
  other_sector n away none p below =
      now_sector s (ended s t m u es row h) last n p (subst (λ o. p < span s.geometry.extent (extents_of o)) (sym (ended_other s t m u es row h n away)) below)
      ∙ (other_keeps n away none).reads p
      ∙ sym (now_sector s t old n p below)

  -- ---- the image itself

  abbrev volume_own : Row
  volume_own = (own s t m u es row h).volume

  -- the sectors that it had, and those that it has
  abbrev less : ℕ
  less = length volume_own.extents * s.geometry.extent

  abbrev more : ℕ
  more = length (grown es volume_own).extents * s.geometry.extent

  abbrev facts : IsVhdIn s t old m u volume_own
  facts = vhd_in s t old m u volume_own h.orderly ready.firm (own s t m u es row h).there (own s t m u es row h).filled

  image_is : row.image ≡ body.Vhd facts.head facts.slots
  image_is = ap (λ (r : TreeRow). r.image) (same_Some row facts.at.row (sym h.found ∙ facts.at.found)) ∙ facts.is

  more_is : (row.extents + length es) * s.geometry.extent ≡ more
  more_is = ap (λ n. n * s.geometry.extent) (ap (λ n. n + length es) (own s t m u es row h).long ∙ sym (length-append volume_own.extents es))

  less_size : size_of s t (Vhd u) ≡ less
  less_size = size_there s t (Vhd u) volume_own (own s t m u es row h).there

  abbrev larger_rest : Held
  larger_rest = volume_of s (larger s t m u es row h) (at_rest (reads old)) (Vhd u)

  abbrev larger_area : Held
  larger_area = volume_of s (larger s t m u es row h) area (Vhd u)

  abbrev larger_last : Held
  larger_last = volume_of s (larger s t m u es row h) last (Vhd u)

  first_steady : IsSteadyIn s.geometry less larger_rest facts.head facts.slots
  first_steady = steady_kept s.geometry less facts.head facts.slots ok (volume_of s t old (Vhd u)) larger_rest
      (subst (λ n. KeepsAt (λ p. p < n) (volume_of s t old (Vhd u)) larger_rest) less_size
      (KeepsAt-then (KeepsAt-keeps _ (Keeps-volume s.geometry.extent (extents_of (rows t (Vhd u))) (keeps_rest old))) (longer s t m u es row h old ready)))
      facts.steady

  stays_true : StaysTrueIn s.geometry facts.head facts.slots larger_rest larger_area
  stays_true = subst (λ b. IfVhd b (λ head slots. StaysTrueIn s.geometry head slots larger_rest larger_area)) image_is stays

  ends_there : EndsAt s.geometry more facts.head facts.slots larger_rest larger_area
  ends_there = subst (λ n. EndsAt s.geometry n facts.head facts.slots larger_rest larger_area) more_is (subst (λ b. IfVhd b (λ head slots. EndsAt s.geometry ((row.extents + length es) * s.geometry.extent) head slots larger_rest larger_area)) image_is ends)

  last_keeps : Keeps larger_area larger_last
  last_keeps = Keeps-volume s.geometry.extent (extents_of (rows (larger s t m u es row h) (Vhd u))) (keeps_rest area)

  last_settled : IsSettled larger_last
  last_settled = IsSettled-volume s.geometry.extent (extents_of (rows (larger s t m u es row h) (Vhd u))) last (λ p. refl)

  same_volume : volume_of s (ended s t m u es row h) last (Vhd u) ≡ larger_last
  same_volume = ap (λ o. volume s.geometry.extent (extents_of o) last) (ended_own s t m u es row h ∙ sym (larger_own s t m u es row h))

  -- it is steady in the sectors that it had, and in those that it has
  steady_less : IsSteadyIn s.geometry less (volume_of s (ended s t m u es row h) last (Vhd u)) facts.head facts.slots
  steady_less = subst (λ x. IsSteadyIn s.geometry less x facts.head facts.slots) (sym same_volume)
      (steady_ended s.geometry less facts.head facts.slots larger_rest larger_area larger_last last_keeps last_settled first_steady stays_true)

  steady_more : IsSteadyIn s.geometry more (volume_of s (ended s t m u es row h) last (Vhd u)) facts.head facts.slots
  steady_more = subst (λ x. IsSteadyIn s.geometry more x facts.head facts.slots) (sym same_volume)
      (steady_at_end s.geometry less facts.head facts.slots larger_rest larger_area larger_last last_keeps last_settled first_steady more ok stays_true ends_there)

  abbrev there_now : Sectors
  there_now = sectors_of now (Vhd u)

  allows_more : Allows more (volume_of s (ended s t m u es row h) last (Vhd u)) there_now
  allows_more = vhd_allowed s (ended s t m u es row h) last (after s t m u es row h) (reads last) u (grown es volume_own) (orderly_ended s t m u es row h)
      (left_in s (ended s t m u es row h) (after s t m u es row h) last (reads last) (orderly_ended s t m u es row h) (left_now s last)) (ended_own s t m u es row h) (own s t m u es row h).filled

  not_more : less ≤ more
  not_more = mul-le-mul_right s.geometry.extent (omega (arith, length-append volume_own.extents es))

  allows_less : Allows less (volume_of s (ended s t m u es row h) last (Vhd u)) there_now
  allows_less p below = allows_more p (omega (arith, below, not_more))

  stands_more : IsStanding s.geometry more facts.head facts.slots
  stands_more =
      let i = In-tree_row (after s t m u es row h).rows (Vhd u) (sized (row.extents + length es) row) (turned_same (Vhd u) (row.extents + length es) m.rows row h.found) in
      subst (λ n. IsStanding s.geometry n facts.head facts.slots) more_is
      (subst (λ b. StandsIn s.geometry ((row.extents + length es) * s.geometry.extent) b) image_is ((orderly_ended s t m u es row h).stands (sized (row.extents + length es) row) i.0))

  own_sector : (p : ℕ) → p < less → there_now p ≡ sectors_of was (Vhd u) p
  own_sector p below =
      let inside : p < size_of s t (Vhd u) = omega (arith, below, less_size) in
      let further : p < size_of s (ended s t m u es row h) (Vhd u) = omega (arith, below, not_more, ap (λ o. span s.geometry.extent (extents_of o)) (ended_own s t m u es row h)) in
      now_sector s (ended s t m u es row h) last (Vhd u) p further
      ∙ ap (λ x. reads x p) same_volume
      ∙ last_keeps.reads p
      ∙ (front_written s t m u es row h old ready area beside but (Vhd u)).reads p inside
      ∙ (Keeps-volume s.geometry.extent (extents_of (rows t (Vhd u))) (keeps_rest old)).reads p
      ∙ sym (now_sector s t old (Vhd u) p inside)

  own_image : image_of now (Vhd u) ≡ image_of was (Vhd u)
  own_image =
      let g = s.geometry in
      let held = volume_of s (ended s t m u es row h) last (Vhd u) in
      let size : size_at more there_now ≡ size_at less there_now =
      steady_size g more held facts.head facts.slots there_now stands_more steady_more allows_more ∙ sym (steady_size g less held facts.head facts.slots there_now facts.stands steady_less allows_less) in
      vhd_of now u (grown es volume_own) (ended_own s t m u es row h) (own s t m u es row h).filled (whole s (ended s t m u es row h) (after s t m u es row h) (Vhd u) (orderly_ended s t m u es row h))
      ∙ steady_valid g more held facts.head facts.slots there_now ok steady_more allows_more
      ∙ ap Some (content_ends g.block g.entries more less there_now size)
      ∙ sym (steady_valid g less held facts.head facts.slots there_now ok steady_less allows_less)
      ∙ image_same g.extent g.block g.entries less there_now (sectors_of was (Vhd u)) ok own_sector
      ∙ sym (vhd_of was u volume_own (own s t m u es row h).there (own s t m u es row h).filled (whole s t m (Vhd u) h.orderly))

  -- ---- each disk is the same

  turned_to : IsTurnedTo t (ended s t m u es row h) u
  turned_to = record {
    before = volume_own;
    after = grown es volume_own;
    was = (own s t m u es row h).there;
    is = ended_own s t m u es row h;
    hidden = refl;
    fresh = refl;
    others = ended_other s t m u es row h;
  }

  no_entry_kind : (n : Name) → is_entry n ≡ false → n ≢ Inflate u row.extents
  no_entry_kind n other is = true≢false (sym (ap is_entry is) ∙ other)

  other_there : (n : Name) → n ≢ Vhd u → is_entry n ≡ false → (p : ℕ) → p < size_of s t n → sectors_of now n p ≡ sectors_of was n p
  other_there n away other = other_sector n away (no_entry_kind n other)

  pub images_ended : (n : Name) → image_of now n ≡ image_of was n
  images_ended = images_turned s t (ended s t m u es row h) m (after s t m u es row h) old last u h.orderly (orderly_ended s t m u es row h) turned_to other_there own_image

  pub disks_ended : disks now ≡ disks was
  disks_ended = disks_turned s t (ended s t m u es row h) m (after s t m u es row h) old last u h.orderly (orderly_ended s t m u es row h) turned_to other_there own_image

  -- ---- memory is ready

  no_entry_name : (n : Name) → is_image_name n ≡ true → n ≢ Inflate u row.extents
  unfolding is_image_name
  no_entry_name n image is = true≢false (sym image ∙ ap is_image_name is)

  steady_in : (r : TreeRow) → IsTurned (Vhd u) (row.extents + length es) m.rows r → IsSteady s.geometry (r.extents * s.geometry.extent) (volume_of s (ended s t m u es row h) last (row_name r)) r.image
  steady_in r w = ⊎_elim
      (λ k. subst (λ (x : TreeRow). IsSteady s.geometry (x.extents * s.geometry.extent) (volume_of s (ended s t m u es row h) last (row_name x)) x.image) (sym k.1)
      (body_keeps s.geometry (w.row.extents * s.geometry.extent) w.row.image (other_keeps (row_name w.row) k.0 (no_entry_name (row_name w.row) (named_row s t m w.row h.orderly w.there))) (ready.firm.images w.row w.there)))
      (λ k. subst (λ (x : TreeRow). IsSteady s.geometry (x.extents * s.geometry.extent) (volume_of s (ended s t m u es row h) last (row_name x)) x.image) (sym (k.1 ∙ ap (sized (row.extents + length es)) (only s t m u es row h w.row w.there k.0)))
      (subst (λ n. IsSteady s.geometry ((row.extents + length es) * s.geometry.extent) (volume_of s (ended s t m u es row h) last n) row.image) (sym (In-tree_row m.rows (Vhd u) row h.found).1)
      (subst (λ b. IsSteady s.geometry ((row.extents + length es) * s.geometry.extent) (volume_of s (ended s t m u es row h) last (Vhd u)) b) (sym image_is)
      (subst (λ n. IsSteadyIn s.geometry n (volume_of s (ended s t m u es row h) last (Vhd u)) facts.head facts.slots) (sym more_is) steady_more)))) w.how

  pub ready_ended : IsReady s (ended s t m u es row h) last (after s t m u es row h)
  ready_ended = record {
    firm = record {
      images = λ r i. steady_in r (In-turned (Vhd u) (row.extents + length es) m.rows r i);
      quiet = λ r i _. volume_rested s (ended s t m u es row h) (reads area) (row_name r);
      below = below_alike was now m.op refl refl (λ n _. images_ended n) ready.firm.below;
    };
    records = agrees_keeps (records_held s t old) (records_held s (ended s t m u es row h) last) m.places (other_keeps Mgt (λ same. (let x = same in cc)) (λ same. (let x = same in cc))) ready.records;
    recorded = volume_rested s (ended s t m u es row h) (reads area) Mgt;
    logs = logged_as (holds_ready s t old m h.orderly ready) (ended s t m u es row h) (orderly_ended s t m u es row h).table (reads last) (λ v. ended_other s t m u es row h (Cbt v) (image_apart (Vhd u) refl v))
        (λ v p below. other_there (Cbt v) (image_apart (Vhd u) refl v) refl p below);
    logged = λ v. volume_rested s (ended s t m u es row h) (reads area) (Cbt v);
  }
