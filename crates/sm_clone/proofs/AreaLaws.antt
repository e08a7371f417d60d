-- The areas at the moments of a fork: in front of the writes, while they are made, and behind them.
use Rattle.std.proofs.Common.{◌≡◌, ◌≢◌, inl, inr, ⊎_elim, ℕ, ◌*◌, ◌/◌, Bool, true, false, List, Option, None, Some, replicate, refl, sym, ap, ◌∙◌, subst, arith}
use Rattle.std.proofs.lemmas.Bool.{true≢false}
use Rattle.sm_base.specs.declared.names.Name.{Name}
use Rattle.sm_base.specs.declared.names.Name.TheVariants.{Mgt, Vhd}
use Rattle.sm_disk.specs.Held.{Held, Keeps, reads}
use Rattle.sm_disk.proofs.HeldLaws.{Keeps-then}
use Rattle.vg_meta.specs.Tables.{VolumeTable, extents_of, rows}
use Rattle.vg_volumes.specs.Sites.{Site, size_of, volume_of}
use Rattle.vg_volumes.specs.Volumes.{span, volume}
use Rattle.vg_volumes.proofs.VolumeLaws.{Keeps-volume}
use Rattle.vhd_image.specs.Bodies.{sector_count}
use Rattle.vhd_image.specs.declared.images.Body.{Body}
use Rattle.vhd_image.proofs.MakingLaws.{made-stands}
use Rattle.vhd_volumes.specs.Steady.{IsSteadyIn}
use Rattle.vhd_volumes.specs.Truth.{HasRoomFor, IsStanding}
use Rattle.vhd_volumes.specs.declared.heads.Head.{Head}
use Rattle.sm_record.specs.declared.records.Record.{Record}
use Rattle.sm_mgt.specs.Places.{place_for}
use Rattle.sm_standing.specs.Apart.{is_apart}
use Rattle.sm_standing.specs.Forks.{forked}
use Rattle.sm_ready.specs.Done.{at_rest}
use Rattle.sm_ready.specs.Known.{Known}
use Rattle.sm_ready.specs.Orderly.{IsOrderly}
use Rattle.sm_ready.specs.Ready.{IsReady, IsTidy}
use Rattle.sm_ready.proofs.MadeLaws.{steady_new}
use Rattle.sm_ready.proofs.RestLaws.{keeps_rest}
use Rattle.sm_clone.specs.Forking.{IsBesideFork, IsMade, Passes, base_body, base_name, child_head, fork_of, twin_record}
use Rattle.sm_clone.specs.declared.forks.Fork.{Fork}
use Rattle.sm_clone.proofs.ForkRows.{base_image, base_named, base_not_leaf, base_not_twin, disk_size}
use Rattle.sm_clone.proofs.ForkableLaws.{disk_speaks, twin_speaks}
use Rattle.sm_clone.proofs.MomentLaws.{IsApartTable, IsChild, IsMomentArea}
use Rattle.sm_clone.proofs.PassedLaws.{own as own_of}
use Rattle.sm_clone.proofs.ShapeLaws.{sized_in}
use Rattle.sm_machine.specs.WellFormed.{is_image_name}
use Rattle.sm_ready.proofs.ShapeLaws.{mgt_image}

module _ (s : Site) (t : VolumeTable) (m : Known) (u twin : List ℕ) (read_only : Bool) (o : IsOrderly s t m) (tidy : IsTidy t m) (passes : Passes s t m u twin read_only)
    (old : Held) (ready : IsReady s t old m) (k : ℕ) (origin : Record) (placed : place_for m.places twin ≡ Some k) where
  abbrev f : Fork
  f = fork_of passes.number m.rows u twin

  abbrev us : List (List ℕ)
  us = forked f.disk f.base f.twin

  abbrev image : Body
  image = (own_of s t m u twin read_only o tidy passes).row.image

  abbrev entry : Record
  entry = twin_record u twin read_only origin

  abbrev rest : Held
  rest = at_rest (reads old)

  abbrev extent : ℕ
  extent = s.geometry.extent

  abbrev Apart : VolumeTable → Name → Type 0
  Apart = IsApartTable s t m u twin read_only o tidy passes old ready k origin placed

  abbrev Area : VolumeTable → Name → Bool → Held → Type 0
  Area = IsMomentArea s t m u twin read_only o tidy passes old ready k origin placed

  same_held : (es fs : List ℕ) (a b : Held) → fs ≡ es → Keeps a b → Keeps (volume extent es a) (volume extent fs b)
  same_held es fs a b same keeps = subst (λ gs. Keeps (volume extent es a) (volume extent gs b)) (sym same) (Keeps-volume extent es keeps)

  itself : (h : Held) → Keeps h h
  itself h = record { reads = λ p. refl; may = λ p v had. had }

  -- in front of the writes nothing is held but what a read gave
  pub area_front : (v : VolumeTable) (n : Name) → Apart v n → Area v n false rest
  area_front v n h = record {
    others = λ x apart other. same_held (extents_of (rows t x)) (extents_of (rows v x)) rest rest (ap extents_of (h.others x apart)) (itself rest);
    own = same_held (extents_of (rows t f.own)) (extents_of (rows v n)) rest rest (ap extents_of h.moved ∙ h.extents) (itself rest);
    records = λ p w below may. inl ((same_held (extents_of (rows t Mgt)) (extents_of (rows v Mgt)) rest rest (ap extents_of (h.others Mgt refl)) (itself rest)).may p w may);
    children = λ e. absurd (true≢false (sym e));
  }

  -- while the two images and the record are written
  pub area_fill : (v : VolumeTable) (new : Held) → Apart v (base_name f) → IsBesideFork s v f rest new k entry → Area v (base_name f) false new
  area_fill v new h b =
      let front = area_front v (base_name f) h in
      record {
        others = λ x apart other. Keeps-then (front.others x apart other) (b.others x (away x apart (Vhd f.disk) (disk_speaks f.disk f.base f.twin)) (away x apart (Vhd f.twin)
            (twin_speaks f.disk f.base f.twin)) other);
        own = Keeps-then front.own (b.others (base_name f) (base_not_leaf s t m u twin read_only o tidy passes) (base_not_twin s t m u twin read_only o tidy passes)
            (λ is. true≢false (sym (base_image s t m u twin read_only o tidy passes) ∙ ap is_image_name is ∙ mgt_image)));
        records = λ p w below may. ⊎_elim (λ was. front.records p w below was) (λ now. inr now) (b.records p w below may);
        children = λ e. absurd (true≢false (sym e));
      }
    where
      away : (x : Name) → is_apart us x ≡ true → (y : Name) → is_apart us y ≡ false → x ≢ y
      away x apart y speaks is = true≢false (sym apart ∙ ap (is_apart us) is ∙ speaks)

  -- ---- behind the writes

  abbrev head : List ℕ → ℕ → List ℕ → Head
  head w now uid = child_head s.geometry w now uid (base_body f image)

  abbrev no_slots : List (Option ℕ)
  no_slots = replicate s.geometry.entries None

  -- an image that was written is steady once all is settled, whatever table has its extents
  pub made_steady : (v next : VolumeTable) (filled : Held) (w : List ℕ) (now : ℕ) (uid : List ℕ) → extents_of (rows next (Vhd w)) ≡ extents_of (rows v (Vhd w)) → IsMade s v filled (head w now uid)
      → IsSteadyIn s.geometry (size_of s next (Vhd w)) (volume_of s next (at_rest (reads filled)) (Vhd w)) (head w now uid) no_slots
  made_steady v next filled w now uid same made =
      subst (λ es. IsSteadyIn s.geometry (span extent es) (volume extent es (at_rest (reads filled))) (head w now uid) no_slots) (sym same)
      (steady_new s v filled (size_of s v (Vhd w)) (head w now uid) (Vhd w) made)

  -- and one of the two
  child_made : (v next : VolumeTable) (filled : Held) (w : List ℕ) (now : ℕ) (uid : List ℕ) → extents_of (rows next (Vhd w)) ≡ extents_of (rows v (Vhd w))
      → HasRoomFor s.geometry 0 (size_of s v (Vhd w))
      → IsMade s v filled (head w now uid) → IsChild s t m u twin read_only o tidy passes old ready k origin placed next (at_rest (reads filled)) (base_name f) (Vhd w)
  child_made v next filled w now uid same room made = record {
    head = head w now uid;
    stands = subst (λ es. IsStanding s.geometry (span extent es) (head w now uid) no_slots) (sym same)
        (made-stands s.geometry (size_of s v (Vhd w)) now (sector_count (base_body f image)) uid (disk_size s t m u twin read_only o tidy passes) (Some (base_body f image)) (Vhd w) room);
    steady = made_steady v next filled w now uid same made;
    parent = ap Some (base_named s t m u twin read_only o tidy passes);
    size = back (sector_count (base_body f image)) ∙ sized_in (base_name f) image;
  }
    where
      back : (j : ℕ) → 512 * j / 512 ≡ j
      back j = omega arith

  pub area_behind : (v next : VolumeTable) (filled : Held) (now : ℕ) (first second : List ℕ) → Apart v (base_name f) → Apart next (base_name f) → Area v (base_name f) false filled
      → extents_of (rows next (Vhd u)) ≡ extents_of (rows v (Vhd u)) → extents_of (rows next (Vhd twin)) ≡ extents_of (rows v (Vhd twin))
      → HasRoomFor s.geometry 0 (size_of s v (Vhd u)) → HasRoomFor s.geometry 0 (size_of s v (Vhd twin))
      → IsMade s v filled (head u now first) → IsMade s v filled (head twin now second) → Area next (base_name f) true (at_rest (reads filled))
  area_behind v next filled now first second h x g own_same twin_same own_room twin_room own_made twin_made = record {
    others = λ y apart other. Keeps-then (g.others y apart other)
        (same_held (extents_of (rows v y)) (extents_of (rows next y)) filled (at_rest (reads filled)) (ap extents_of (x.others y apart ∙ sym (h.others y apart))) (keeps_rest filled));
    own = Keeps-then g.own
        (same_held (extents_of (rows v (base_name f))) (extents_of (rows next (base_name f))) filled (at_rest (reads filled))
        (ap extents_of x.moved ∙ x.extents ∙ sym h.extents ∙ sym (ap extents_of h.moved)) (keeps_rest filled));
    records = λ p w below may. g.records p w below
        ((same_held (extents_of (rows v Mgt)) (extents_of (rows next Mgt)) filled (at_rest (reads filled)) (ap extents_of (x.others Mgt refl
        ∙ sym (h.others Mgt refl))) (keeps_rest filled)).may p w may);
    children = λ _. (child_made v next filled u now first own_same own_room own_made, child_made v next filled twin now second twin_same twin_room twin_made);
  }
