-- A footer is written inside the free sectors of an image, and its volume is cut behind it: whatever a stop leaves is kept and
-- shows the disks from before; behind the cut the image says what it said, and memory is ready.
use Rattle.std.proofs.Common.{◌≡◌, ◌≢◌, ⊎_elim, ℕ, ◌*◌, ◌<◌, false, List, length, take, drop, Some, None, refl, sym, ap, ◌∙◌, subst, subst₂, arith}
use Rattle.std.proofs.lemmas.Bool.{cond-true}
use Rattle.std.proofs.lemmas.Option.{same_Some}
use Rattle.sm_base.specs.Numbers.{IsGeometry}
use Rattle.sm_base.specs.declared.names.Name.{Name}
use Rattle.sm_base.specs.declared.names.Name.TheVariants.{Mgt, Vhd, Cbt}
use Rattle.sm_disk.specs.Held.{Held, Allows, IsSettled, Keeps, reads}
use Rattle.sm_disk.proofs.HeldLaws.{Allows-reads, Keeps-then, May-reads}
use Rattle.vg_meta.specs.Tables.{Row, VolumeTable, extents_of, rows}
use Rattle.vg_meta.specs.Changes.{cut_to}
use Rattle.vg_meta.proofs.ByName.{spread}
use Rattle.vg_volumes.specs.Sites.{Site, size_of, volume_of}
use Rattle.vg_volumes.specs.Volumes.{KeepsAt, KeepsElsewhere, span, volume}
use Rattle.vg_volumes.proofs.VolumeLaws.{IsSettled-volume, Keeps-volume}
use Rattle.vhd_layout.specs.Contents.{content_at, size_at}
use Rattle.vhd_layout.specs.Layouts.{Sectors}
use Rattle.vhd_layout.specs.Readings.{image_at, is_valid}
use Rattle.vhd_layout.proofs.ReadingLaws.{valid-decided}
use Rattle.vhd_volumes.specs.Steady.{IsQuiet, IsSteadyIn}
use Rattle.vhd_volumes.specs.Truth.{IsStanding, disk_blocks, layout_in}
use Rattle.vhd_volumes.proofs.SteadyLaws.{KeepsAt-shorter, Keeps-beside}
use Rattle.vhd_image.specs.Bodies.{IfVhd, StandsIn}
use Rattle.vhd_image.specs.Changes.{ChangesBy, EndsAt, IsChanged, IsSameImage, StaysTrueIn}
use Rattle.vhd_image.specs.Steady.{IsSteady}
use Rattle.vhd_image.specs.declared.images.Body.TheVariants as body
use Rattle.vhd_image.proofs.SteadyLaws.{body_keeps, steady_at_end, steady_ended, steady_kept}
use Rattle.vhd_chain.specs.Trees.{row_name}
use Rattle.vhd_chain.specs.declared.rows.TreeRow.{TreeRow}
use Rattle.sm_mgt.specs.Places.{records_held}
use Rattle.sm_standing.specs.Contents.{Content, sectors_of}
use Rattle.sm_standing.specs.Images.{image_of}
use Rattle.sm_standing.specs.Standing.{disks}
use Rattle.sm_standing.proofs.ImageSectors.{image_same}
use Rattle.sm_standing.proofs.WorldLaws.{elsewhere}
use Rattle.sm_ready.specs.Done.{at_rest}
use Rattle.sm_ready.specs.Known.{Known}
use Rattle.sm_ready.specs.Orderly.{IsOrderly}
use Rattle.sm_ready.specs.Ready.{IsBelow, IsReady}
use Rattle.sm_ready.specs.Stores.{Leaving, content_in, content_now}
use Rattle.sm_ready.proofs.CommitLaws.{IsSafe, volume_rested}
use Rattle.sm_ready.proofs.LeftLaws.{IsLeft, IsVhdIn, extent_some, left_in, now_sector, size_there, vhd_allowed, vhd_in, vhd_of}
use Rattle.sm_ready.proofs.LogLaws.{holds_ready, logged_as}
use Rattle.sm_ready.proofs.LogRows.{image_apart}
use Rattle.sm_ready.proofs.Orders.{geometry_of, whole}
use Rattle.sm_ready.proofs.RestLaws.{agrees_keeps, keeps_rest}
use Rattle.sm_ready.proofs.SpliceLaws.{splice_here, splice_left, splice_other, with_volume}
use Rattle.sm_ready.proofs.Steadies.{steady_size, steady_valid}
use Rattle.sm_space.proofs.CutLaws.{IsToCut, after, cut, cut_other, cut_own, cut_size, its, kept_long, orderly_cut, parts, stands_cut, unwritten_in}
use Rattle.sm_space.proofs.EndLaws.{content_ends}
use Rattle.sm_space.proofs.OwnLaws.{in_rows, only}
use Rattle.sm_space.proofs.SizedLaws.{In-turned, IsTurned, sized}
use Rattle.sm_space.proofs.TurnedLaws.{IsTurnedTo, disks_turned}
use Rattle.sm_space.proofs.UnchangedLaws.{same_content, same_kept, same_still}

module _ (s : Site) (t : VolumeTable) (m : Known) (u : List ℕ) (to : ℕ) (row : TreeRow) (h : IsToCut s t m u to row) (old : Held) (ready : IsReady s t old m)
    (area : Held) (beside : KeepsElsewhere s.geometry.extent (extents_of (rows t (Vhd u))) old area)
    (stays : IfVhd row.image (λ head slots. StaysTrueIn s.geometry head slots (volume_of s t old (Vhd u)) (volume_of s t area (Vhd u)))) where
  abbrev volume_own : Row
  volume_own = (its s t m u to row h).volume

  -- the sectors that the image has
  abbrev full : ℕ
  full = length volume_own.extents * s.geometry.extent

  there : rows t (Vhd u) ≡ Some volume_own
  there = (its s t m u to row h).there

  filled : volume_own.fresh ≡ false
  filled = (its s t m u to row h).filled

  abbrev facts : IsVhdIn s t old m u volume_own
  facts = vhd_in s t old m u volume_own h.orderly ready.firm there filled

  image_is : row.image ≡ body.Vhd facts.head facts.slots
  image_is = ap (λ (r : TreeRow). r.image) (same_Some row facts.at.row (sym h.found ∙ facts.at.found)) ∙ facts.is

  ok : IsGeometry s.geometry.extent s.geometry.block s.geometry.entries
  ok = geometry_of s t m h.orderly

  full_size : size_of s t (Vhd u) ≡ full
  full_size = size_there s t (Vhd u) volume_own there

  abbrev old_volume : Held
  old_volume = volume_of s t old (Vhd u)

  abbrev new_volume : Held
  new_volume = volume_of s t area (Vhd u)

  stays_true : StaysTrueIn s.geometry facts.head facts.slots old_volume new_volume
  stays_true = subst (λ b. IfVhd b (λ head slots. StaysTrueIn s.geometry head slots old_volume new_volume)) image_is stays

  changes : ChangesBy (layout_in s.geometry facts.head.footer full) (IsSameImage (layout_in s.geometry facts.head.footer full)) old_volume new_volume
  changes = (stays_true full facts.steady.is_true).same

  -- ---- a stop in front of the cut

  module _ (image : Sectors) (left : IsLeft s area image) where
    abbrev now_there : Sectors
    now_there = sectors_of (content_in s t image) (Vhd u)

    allowed_now : Allows full new_volume now_there
    allowed_now = vhd_allowed s t area m image u volume_own h.orderly (left_in s t m area image h.orderly left) there filled

    abbrev changed : IsChanged (layout_in s.geometry facts.head.footer full) (IsSameImage (layout_in s.geometry facts.head.footer full)) old_volume now_there
    changed = changes.from now_there allowed_now

    -- what might have been left
    abbrev earlier : Sectors
    earlier = with_volume s.geometry.extent (extents_of (rows t (Vhd u))) changed.before image

    earlier_left : IsLeft s old earlier
    earlier_left = splice_left s t (Vhd u) old area changed.before image beside (subst (λ k. Allows k old_volume changed.before) (sym full_size) changed.allowed) left

    own_left : image_of (content_in s t image) (Vhd u) ≡ image_of (content_in s t earlier) (Vhd u)
    own_left =
        let g = s.geometry in
        vhd_of (content_in s t image) u volume_own there filled (whole s t m (Vhd u) h.orderly)
        ∙ cond-true (is_valid g.block g.entries full now_there) (Some (content_at g.block g.entries full now_there)) None
        ((valid-decided g.extent g.block g.entries full now_there ok).1 (changes.valid now_there allowed_now))
        ∙ ap Some (same_content g.block g.entries (disk_blocks g facts.head.footer) full changed.before now_there changed.changed)
        ∙ sym (steady_valid g full old_volume facts.head facts.slots changed.before ok facts.steady changed.allowed)
        ∙ sym (image_same g.extent g.block g.entries full (sectors_of (content_in s t earlier) (Vhd u)) changed.before ok
        (λ p below. splice_here s t (Vhd u) changed.before image p h.orderly.table (extent_some s t m h.orderly) (omega (arith, below, full_size))))
        ∙ sym (vhd_of (content_in s t earlier) u volume_own there filled (whole s t m (Vhd u) h.orderly))

    others_left : (n : Name) → n ≢ Vhd u → (p : ℕ) → p < size_of s t n → sectors_of (content_in s t image) n p ≡ sectors_of (content_in s t earlier) n p
    others_left n other p below = sym (splice_other s t (Vhd u) n changed.before image p h.orderly.table (extent_some s t m h.orderly) other below)

  -- it is kept, and shows the disks from before
  pub footer_safe : (before : Leaving) → ((image : Sectors) → IsLeft s old image → before t image) → IsSafe s t area before (disks (content_now s t old))
  footer_safe before might = record {
    kept = λ image left. same_kept s t m old (Vhd u) image (earlier image left) h.orderly ready (earlier_left image left) (λ is. (let x = is in cc)) (others_left image left) (own_left image left);
    shown = λ image left. same_still s t m old (Vhd u) image (earlier image left) h.orderly ready (earlier_left image left) (λ is. (let x = is in cc)) (others_left image left) (own_left image left)
        before (might (earlier image left) (earlier_left image left));
  }

  -- ---- behind the cut

  module _ (ends : IfVhd row.image (λ head slots. EndsAt s.geometry (to * s.geometry.extent) head slots (volume_of s t old (Vhd u)) (volume_of s t area (Vhd u)))) where
    abbrev was : Content
    was = content_now s t old

    abbrev pub last : Held
    last = at_rest (reads area)

    abbrev table_cut : VolumeTable
    table_cut = cut s t m u to row h

    abbrev then : Known
    then = after s t m u to row h

    abbrev now : Content
    now = content_now s table_cut last

    orderly_then : IsOrderly s table_cut then
    orderly_then = orderly_cut s t m u to row h

    -- each other volume holds what it held

    beside_keeps : (n : Name) → n ≢ Vhd u → Keeps (volume_of s t old n) (volume_of s t area n)
    beside_keeps n apart =
        Keeps-beside s.geometry.extent (extents_of (rows t n)) (extents_of (rows t (Vhd u)))
        (λ p below. elsewhere s.count s.geometry.extent (rows t) (Vhd u) n p (spread s.count t h.orderly.table) (extent_some s t m h.orderly) apart below) beside

    other_keeps : (n : Name) → n ≢ Vhd u → Keeps (volume_of s t old n) (volume_of s table_cut last n)
    other_keeps n apart =
        subst (λ o. Keeps (volume_of s t old n) (volume s.geometry.extent (extents_of o) last)) (sym (cut_other s t m u to row h n apart))
        (Keeps-then (beside_keeps n apart) (Keeps-volume s.geometry.extent (extents_of (rows t n)) (keeps_rest area)))

    other_sector : (n : Name) → n ≢ Vhd u → (p : ℕ) → p < size_of s t n → sectors_of now n p ≡ sectors_of was n p
    other_sector n apart p below =
        now_sector s table_cut last n p (subst (λ o. p < span s.geometry.extent (extents_of o)) (sym (cut_other s t m u to row h n apart)) below)
        ∙ (other_keeps n apart).reads p
        ∙ sym (now_sector s t old n p below)

    -- the image itself, in all the sectors that it had, and in those that it has

    abbrev fewer : ℕ
    fewer = to * s.geometry.extent

    abbrev last_volume : Held
    last_volume = volume_of s t last (Vhd u)

    last_keeps : Keeps new_volume last_volume
    last_keeps = Keeps-volume s.geometry.extent (extents_of (rows t (Vhd u))) (keeps_rest area)

    last_settled : IsSettled last_volume
    last_settled = IsSettled-volume s.geometry.extent (extents_of (rows t (Vhd u))) last (λ p. refl)

    ends_there : EndsAt s.geometry fewer facts.head facts.slots old_volume new_volume
    ends_there = subst (λ b. IfVhd b (λ head slots. EndsAt s.geometry (to * s.geometry.extent) head slots old_volume new_volume)) image_is ends

    steady_full : IsSteadyIn s.geometry full last_volume facts.head facts.slots
    steady_full = steady_ended s.geometry full facts.head facts.slots old_volume new_volume last_volume last_keeps last_settled facts.steady stays_true

    steady_fewer : IsSteadyIn s.geometry fewer last_volume facts.head facts.slots
    steady_fewer = steady_at_end s.geometry full facts.head facts.slots old_volume new_volume last_volume last_keeps last_settled facts.steady fewer ok stays_true ends_there

    stands_fewer : IsStanding s.geometry fewer facts.head facts.slots
    stands_fewer = subst (StandsIn s.geometry fewer) image_is (stands_cut s t m u to row h)

    -- the volume, once it is cut, begins with the same sectors
    cut_extents : extents_of (rows table_cut (Vhd u)) ≡ take to volume_own.extents
    cut_extents = ap extents_of (cut_own s t m u to row h)

    same_front : KeepsAt (λ p. p < fewer) last_volume (volume_of s table_cut last (Vhd u))
    same_front =
        let x = s.geometry.extent in
        subst (λ o. KeepsAt (λ p. p < fewer) (volume x (extents_of o) last) (volume_of s table_cut last (Vhd u))) (sym there)
        (subst (λ es. KeepsAt (λ p. p < fewer) (volume x volume_own.extents last) (volume x es last)) (sym cut_extents)
        (subst₂ (λ (es : List ℕ) k. KeepsAt (λ p. p < k * x) (volume x es last) (volume x (take to volume_own.extents) last)) (parts s t m u to row h) (kept_long s t m u to row h)
        (KeepsAt-shorter x (take to volume_own.extents) (drop to volume_own.extents) last)))

    steady_then : IsSteadyIn s.geometry fewer (volume_of s table_cut last (Vhd u)) facts.head facts.slots
    steady_then = steady_kept s.geometry fewer facts.head facts.slots ok last_volume (volume_of s table_cut last (Vhd u)) same_front steady_fewer

    abbrev there_last : Sectors
    there_last = λ p. reads last_volume p

    allowed_last : Allows full new_volume there_last
    allowed_last p below = last_keeps.may p (reads last_volume p) (May-reads last_volume p)

    abbrev same : IsChanged (layout_in s.geometry facts.head.footer full) (IsSameImage (layout_in s.geometry facts.head.footer full)) old_volume there_last
    same = changes.from there_last allowed_last

    quiet : IsQuiet old_volume
    quiet = let own = in_rows s t m u row h.orderly h.found in subst (λ n. IsQuiet (volume_of s t old n)) own.1 (ready.firm.quiet row own.0 (unwritten_in s t m u to row h))

    cut_size_is : length (cut_to to volume_own).extents * s.geometry.extent ≡ fewer
    cut_size_is = ap (λ k. k * s.geometry.extent) (kept_long s t m u to row h)

    own_image : image_of now (Vhd u) ≡ image_of was (Vhd u)
    own_image =
        let g = s.geometry in
        let size : size_at fewer there_last ≡ size_at full there_last =
        steady_size g fewer last_volume facts.head facts.slots there_last stands_fewer steady_fewer (Allows-reads fewer last_volume)
        ∙ sym (steady_size g full last_volume facts.head facts.slots there_last facts.stands steady_full (Allows-reads full last_volume)) in
        vhd_of now u (cut_to to volume_own) (cut_own s t m u to row h) filled (whole s table_cut then (Vhd u) orderly_then)
        ∙ ap (λ k. image_at g.block g.entries k (sectors_of now (Vhd u))) cut_size_is
        ∙ image_same g.extent g.block g.entries fewer (sectors_of now (Vhd u)) there_last ok
        (λ p below. now_sector s table_cut last (Vhd u) p (omega (arith, below, cut_size s t m u to row h)) ∙ same_front.reads p below)
        ∙ steady_valid g fewer last_volume facts.head facts.slots there_last ok steady_fewer (Allows-reads fewer last_volume)
        ∙ ap Some (content_ends g.block g.entries fewer full there_last size)
        ∙ ap Some (same_content g.block g.entries (disk_blocks g facts.head.footer) full same.before there_last same.changed)
        ∙ sym (steady_valid g full old_volume facts.head facts.slots same.before ok facts.steady same.allowed)
        ∙ image_same g.extent g.block g.entries full same.before (sectors_of was (Vhd u)) ok
        (λ p below. quiet p (same.before p) (same.allowed p below) ∙ sym (now_sector s t old (Vhd u) p (omega (arith, below, full_size))))
        ∙ sym (vhd_of was u volume_own there filled (whole s t m (Vhd u) h.orderly))

    -- each disk is the same

    turned_to : IsTurnedTo t table_cut u
    turned_to = record {
      before = volume_own;
      after = cut_to to volume_own;
      was = there;
      is = cut_own s t m u to row h;
      hidden = refl;
      fresh = refl;
      others = cut_other s t m u to row h;
    }

    pub disks_cut : disks (content_now s (cut s t m u to row h) (at_rest (reads area))) ≡ disks (content_now s t old)
    disks_cut = disks_turned s t table_cut m then old last u h.orderly orderly_then turned_to (λ n apart _. other_sector n apart) own_image

    -- memory is ready

    steady_in : (r : TreeRow) → IsTurned (Vhd u) to m.rows r → IsSteady s.geometry (r.extents * s.geometry.extent) (volume_of s table_cut last (row_name r)) r.image
    steady_in r w = ⊎_elim
        (λ k. subst (λ (x : TreeRow). IsSteady s.geometry (x.extents * s.geometry.extent) (volume_of s table_cut last (row_name x)) x.image) (sym k.1)
        (body_keeps s.geometry (w.row.extents * s.geometry.extent) w.row.image (other_keeps (row_name w.row) k.0) (ready.firm.images w.row w.there)))
        (λ k. subst (λ (x : TreeRow). IsSteady s.geometry (x.extents * s.geometry.extent) (volume_of s table_cut last (row_name x)) x.image)
        (sym (k.1 ∙ ap (sized to) (only s t m u row h.orderly h.found w.row w.there k.0)))
        (subst (λ n. IsSteady s.geometry fewer (volume_of s table_cut last n) row.image) (sym (in_rows s t m u row h.orderly h.found).1)
        (subst (λ b. IsSteady s.geometry fewer (volume_of s table_cut last (Vhd u)) b) (sym image_is) steady_then))) w.how

    pub ready_cut : IsReady s table_cut last then
    ready_cut = record {
      firm = record {
        images = λ r i. steady_in r (In-turned (Vhd u) to m.rows r i);
        quiet = λ r i _. volume_rested s table_cut (reads area) (row_name r);
        below = subst (IsBelow now) (sym h.idle) tt;
      };
      records = agrees_keeps (records_held s t old) (records_held s table_cut last) m.places (other_keeps Mgt (λ is. (let x = is in cc))) ready.records;
      recorded = volume_rested s table_cut (reads area) Mgt;
      logs = logged_as (holds_ready s t old m h.orderly ready) table_cut orderly_then.table (reads last) (λ v. cut_other s t m u to row h (Cbt v) (image_apart (Vhd u) refl v))
          (λ v p below. other_sector (Cbt v) (image_apart (Vhd u) refl v) p below);
      logged = λ v. volume_rested s table_cut (reads area) (Cbt v);
    }
