-- One disk changed, or one less: what the list of disks is then.
use Rattle.std.proofs.Common.{◌≡◌, ◌≢◌, ℕ, Bool, true, false, cond, not, List, [], ◌∷◌, map, Option, Some, None, refl, sym, ap, ◌∙◌, subst}
use Rattle.std.specs.List.{filter}
use Rattle.std.specs.Option.{option_map}
use Rattle.std.specs.Str.{bytes_eq}
use Rattle.std.specs.declared.cmp.Ordering.TheVariants.{Less}
use Rattle.std.proofs.lemmas.Option.{none-some, same_Some}
use Rattle.std.proofs.lemmas.Bool.{true≢false}
use Rattle.common_laws.proofs.Bytes.{bytes_eq-same, bytes_eq-refl}
use Rattle.common_laws.proofs.Lists.{In-filter, filter-In, In-map, In-map_at}
use Rattle.common_laws.specs.Lists.{In, when}
use Rattle.sm_machine.specs.Disks.{Disk, is_disk, on_disk}
use Rattle.sm_standing.specs.Contents.{Content}
use Rattle.sm_standing.specs.Ordered.{Rising, disk_cmp}
use Rattle.sm_standing.specs.Standing.{disks, disk_at}
use Rattle.sm_standing.proofs.DiskLists.{at_disks, disks_at, rising-disks, uuid-disk_at}
use Rattle.sm_standing.proofs.DisksShown.{disk_cmp_total}
use Rattle.sm_standing.proofs.Orders.{rising_ext}

-- whether a disk has the UUID
by_uuid : {P : Type 0} (u : List ℕ) (d : Disk) → (is_disk u d ≡ true → d.uuid ≡ u → P) → (is_disk u d ≡ false → d.uuid ≢ u → P) → P
by_uuid {P} u d own other = by (is_disk u d) refl
  where
    by : (b : Bool) → is_disk u d ≡ b → P
    by true is = own is (bytes_eq-same d.uuid u is)
    by false is = other is (λ same. true≢false (sym (subst (λ v. bytes_eq v u ≡ true) (sym same) (bytes_eq-refl u)) ∙ is))

rising-mapped : (g : Disk → Disk) → ((d : Disk) → (g d).uuid ≡ d.uuid) → (ds : List Disk) → Rising disk_cmp ds → Rising disk_cmp (map g ds)
rising-mapped g same [] r = tt
rising-mapped g same (d ∷ ds) r = (
  λ x h. (let w = In-map g ds x h in
      subst (λ e. disk_cmp (g d) e ≡ Less) (sym w.2)
      (subst (λ v. disk_cmp (record d { uuid = v }) (g w.0) ≡ Less) (sym (same d)) (subst (λ v. disk_cmp d (record d { uuid = v }) ≡ Less) (sym (same w.0)) (r.0 w.0 w.1)))),
  rising-mapped g same ds r.1,
)

rising-kept : (keep : Disk → Bool) (ds : List Disk) → Rising disk_cmp ds → Rising disk_cmp (filter keep ds)
rising-kept keep [] r = tt
rising-kept keep (d ∷ ds) r = by (rising-kept keep ds r.1) (keep d)
  where
    by : Rising disk_cmp (filter keep ds) → (b : Bool) → Rising disk_cmp (cond b (d ∷ filter keep ds) (filter keep ds))
    by rest true = (λ x h. r.0 x (In-filter keep ds x h).0, rest)
    by rest false = rest

-- where the disk of a UUID is changed and each other is as it was, that disk of the list is changed
module _ (a b : Content) (u : List ℕ) (f : Disk → Disk) (named : (d : Disk) → (f d).uuid ≡ d.uuid) (own : disk_at b u ≡ option_map f (disk_at a u)) (others : (v : List ℕ) → v ≢ u → disk_at b v ≡ disk_at a v) where
  g : Disk → Disk
  g d = when (is_disk u d) f d

  g_named : (d : Disk) → (g d).uuid ≡ d.uuid
  unfolding g
  g_named d = by (is_disk u d)
    where
      by : (c : Bool) → (when c f d).uuid ≡ d.uuid
      by true = named d
      by false = refl

  into : (d : Disk) → In d (disks b) → In d (map g (disks a))
  unfolding g
  into d h = by_uuid u d
      (λ is same. mine (disk_at a u) refl (sym own ∙ subst (λ v. disk_at b v ≡ Some d) same (disks_at b d h)))
      (λ is other. subst (λ x. In x (map g (disks a))) (ap (λ c. when c f d) is) (In-map_at g (disks a) d (at_disks a d.uuid d (sym (others d.uuid other) ∙ disks_at b d h))))
    where
      mine : (o : Option Disk) → disk_at a u ≡ o → option_map f o ≡ Some d → In d (map g (disks a))
      mine None is e = absurd (none-some d e)
      mine (Some x) is e =
          let there = at_disks a u x is in
          let its = disks_at a x there in
          by_uuid u x
          (λ yes same. subst (λ y. In y (map g (disks a))) (ap (λ c. when c f x) yes ∙ same_Some (f x) d e) (In-map_at g (disks a) x there))
          (λ no other. absurd (other (uuid-disk_at a u x is)))

  back : (d : Disk) → In d (map g (disks a)) → In d (disks b)
  unfolding g
  back d h =
      let w = In-map g (disks a) d h in
      let its = disks_at a w.0 w.1 in
      subst (λ x. In x (disks b)) (sym w.2) (by_uuid u w.0
      (λ is same. subst (λ c. In (when c f w.0) (disks b)) (sym is) (at_disks b u (f w.0) (own ∙ ap (option_map f) (subst (λ v. disk_at a v ≡ Some w.0) same its))))
      (λ is other. subst (λ c. In (when c f w.0) (disks b)) (sym is) (at_disks b w.0.uuid w.0 (others w.0.uuid other ∙ its))))

  pub disks_changed : disks b ≡ on_disk u f (disks a)
  unfolding g
  disks_changed = rising_ext disk_cmp disk_cmp_total (disks b) (map g (disks a)) (rising-disks b) (rising-mapped g g_named (disks a) (rising-disks a)) into back

-- where a UUID is no disk any more and each other is as it was, the disks are one less
module _ (a b : Content) (u : List ℕ) (gone : disk_at b u ≡ None) (others : (v : List ℕ) → v ≢ u → disk_at b v ≡ disk_at a v) where
  pub disks_less : disks b ≡ filter (λ d. not (is_disk u d)) (disks a)
  disks_less = rising_ext disk_cmp disk_cmp_total (disks b) (filter keep (disks a)) (rising-disks b) (rising-kept keep (disks a) (rising-disks a))
      (λ d h. by_uuid u d
      (λ is same. absurd (none-some d (sym gone ∙ subst (λ v. disk_at b v ≡ Some d) same (disks_at b d h))))
      (λ is other. filter-In keep (disks a) d (at_disks a d.uuid d (sym (others d.uuid other) ∙ disks_at b d h)) (ap not is)))
      (λ d h. (let w = In-filter keep (disks a) d h in by_uuid u d
      (λ is same. absurd (true≢false (sym w.1 ∙ ap not is)))
      (λ is other. at_disks b d.uuid d (others d.uuid other ∙ disks_at a d w.0))))
    where
      keep : Disk → Bool
      keep d = not (is_disk u d)
