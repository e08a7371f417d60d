-- The machine attaches a disk for writing in two ways that agree: at once, and once its image has all its extents.
use Rattle.std.proofs.Common.{◌≡◌, ℕ, ◌+◌, ◌<◌, nat_lt, Bool, true, false, List, [], ◌∷◌, ◌++◌, None, refl, sym, ap, ap₂, ◌∙◌, arith}
use Rattle.std.proofs.lemmas.Bool.{le-ltb, lt-ltb}
use Rattle.common_laws.specs.Lists.{In}
use Rattle.sm_base.specs.declared.operations.Mode.TheVariants.{Rw}
use Rattle.sm_machine.specs.declared.commands.Command.TheVariants.{Attach}
use Rattle.sm_machine.specs.Commits.{commits, growth_commits, is_given_up, one_if, own_commits}
use Rattle.sm_machine.specs.Refusals.{forked, is_bad_size, is_deep, is_in_use, is_not_attached, is_out_of_range, is_raw_disk, is_tracked, is_untracked, is_read_only, is_shrink, is_spent, is_taken, is_too_many, is_unknown, lacking, lacks_space, named, need, new_uuid, refusal, with_image_of}
use Rattle.sm_machine.specs.Shapes.{ImageRow, Shape, free, is_image_of, is_vhd, risen}
use Rattle.sm_machine.specs.Steps.{attach_images, given_up, shape_after, shape_next}
use Rattle.sm_machine.specs.WellFormed.{IsWellFormed}
use Rattle.sm_machine.proofs.Passed.{passed}
use Rattle.sm_space.proofs.GrowLaws.{full, grown_image, grown_shape, images_alike, is_filled, none_refuses}
use Rattle.cmd_attach.proofs.AttachedLaws.{change_none}

-- the visible VHD image of a UUID lacks extents
module _ (σ : Shape) (w : IsWellFormed σ) (u : List ℕ) (i : ImageRow) (there : In i σ.images) (shown : is_image_of u i ≡ true) (vhd : is_vhd i.name ≡ true) (lacks : 0 < lacking σ i) where
  -- the shape once its volume has them
  abbrev pub with_room : Shape
  with_room = grown_shape σ w u i there shown vhd (lacking σ)

  -- then it lacks none
  none_more : (x : ImageRow) → In x with_room.images → is_image_of u x ≡ true → lacking with_room x ≡ 0
  none_more x h of = ap (lacking with_room) (is_filled σ w u i there shown vhd (lacking σ) x h of) ∙ full σ i.size i

  pub none_needed : need with_room (Attach u Rw) ≡ 0
  unfolding need
  none_needed = ap (with_image_of (lacking with_room)) (grown_image σ w u i there shown vhd (lacking σ)) ∙ full σ i.size i

  -- it may be attached as before
  pub grown_allowed : refusal σ (Attach u Rw) ≡ None → refusal with_room (Attach u Rw) ≡ None
  unfolding is_unknown is_taken is_in_use is_not_attached is_read_only is_raw_disk is_tracked is_untracked is_out_of_range is_bad_size is_shrink is_deep is_too_many is_spent lacks_space named new_uuid forked
  grown_allowed passes =
      let p = passed σ (Attach u Rw) passes in
      none_refuses with_room (Attach u Rw) (record {
        reserved = p.reserved;
        unknown = p.unknown;
        taken = refl;
        in_use = p.in_use;
        not_attached = refl;
        read_only = p.read_only;
        raw_disk = refl;
        tracked = refl;
        untracked = refl;
        out_of_range = refl;
        bad_size = refl;
        shrink = refl;
        deep = refl;
        too_many = refl;
        spent = refl;
        space = ap (nat_lt (free with_room)) none_needed ∙ le-ltb (free with_room) 0 (omega arith);
      })

  images_next : attach_images with_room u Rw ≡ attach_images σ u Rw
  images_next =
      change_none (is_image_of u) (λ x. let r : ImageRow = record x { extents = x.extents + lacking with_room x } in r) with_room.images
      (λ x h of. ap (λ k. let r : ImageRow = record x { extents = x.extents + k } in r) (none_more x h of) ∙ ap (λ k. let r : ImageRow = record x { extents = k } in r) (omega arith))
      ∙ images_alike σ w u i there shown vhd (lacking σ)

  next_by : (s : Shape) (k : ℕ) → is_given_up s (Attach u Rw) ≡ false → own_commits s (Attach u Rw) ≡ k
      → shape_next s (Attach u Rw) ≡ record s { images = attach_images s u Rw; attached = s.attached ++ record { disk = u; mode = Rw } ∷ []; sequence = risen s.sequence (0 + k) }
  unfolding shape_next shape_after commits
  next_by s k keeps own =
      ap (λ (b : Bool). record (given_up b (shape_after s (Attach u Rw))) { sequence = risen s.sequence (one_if b + own_commits s (Attach u Rw)) }) keeps
      ∙ ap (λ (j : ℕ). let x : Shape = record s { images = attach_images s u Rw; attached = s.attached ++ record { disk = u; mode = Rw } ∷ []; sequence = risen s.sequence (0 + j) } in x) own

  -- and what the machine makes of it is the same
  pub grown_next : is_given_up σ (Attach u Rw) ≡ false → need σ (Attach u Rw) ≡ lacking σ i → shape_next with_room (Attach u Rw) ≡ shape_next σ (Attach u Rw)
  unfolding is_given_up own_commits
  grown_next keeps needed =
      next_by with_room 0 keeps (ap (λ k. growth_commits (nat_lt 0 k)) none_needed)
      ∙ ap₂ (λ (is : List ImageRow) (k : ℕ). let x : Shape = record σ { images = is; attached = σ.attached ++ record { disk = u; mode = Rw } ∷ []; sequence = k } in x) images_next (omega arith)
      ∙ sym (next_by σ 3 keeps (ap growth_commits (ap (nat_lt 0) needed ∙ lt-ltb 0 (lacking σ i) lacks)))
