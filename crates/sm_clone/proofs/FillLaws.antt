-- Between the commits of a fork: two new images are written, and then one record. Each other volume is kept, and each other record.
use Rattle.std.proofs.Common.{◌≡◌, ◌≢◌, inl, inr, ⊎_elim, ℕ, ◌-◌, ◌<◌, List, None, refl, sym, ap, ◌∙◌, subst, subst₂, arith}
use Rattle.std.proofs.Math.Path.{fun_ext}
use Rattle.sm_base.specs.declared.names.Name.{Name}
use Rattle.sm_base.specs.declared.names.Name.TheVariants as name
use Rattle.sm_disk.specs.Held.{Held, Keeps, Torn, Wrote}
use Rattle.sm_disk.specs.Sectors.{sector}
use Rattle.sm_disk.proofs.HeldLaws.{Keeps-then, in_one, may-torn}
use Rattle.sm_disk.proofs.SectorLaws.{sector-one}
use Rattle.vg_meta.specs.Tables.{IsTable, VolumeTable, extents_of, rows}
use Rattle.vg_volumes.specs.Sites.{Site, size_of, volume_of}
use Rattle.vg_volumes.specs.Stored.{Stays, WorksOn, Writes, held_in, stored}
use Rattle.vg_volumes.specs.Volumes.{KeepsElsewhere}
use Rattle.vg_volumes.specs.declared.stores.Store.{Ghosts}
use Rattle.vg_volumes.proofs.StoredLaws.{beside_in, did_in, held_stays, stays_then}
use Rattle.vg_volumes.proofs.VolumeLaws.{KeepsElsewhere-same}
use Rattle.vhd_image.specs.Made.{IsNewImage}
use Rattle.vhd_layout.specs.Images.{IsImage}
use Rattle.vhd_volumes.specs.Truth.{layout_in}
use Rattle.vhd_volumes.specs.declared.heads.Head.{Head}
use Rattle.sm_record.specs.Records.{IsRecord, reading, record_sector}
use Rattle.sm_record.specs.declared.records.Record.{Record}
use Rattle.sm_record.proofs.RoundTrips.{reading_again, sector_fits}
use Rattle.sm_mgt.specs.Places.{records_held}
use Rattle.sm_ready.proofs.AfterLaws.{other_keeps}
use Rattle.sm_ready.proofs.ChainLaws.{tab}
use Rattle.sm_clone.specs.Forking.{IsBesideFork, IsFilled, IsMade}
use Rattle.sm_clone.specs.declared.forks.Fork.{Fork}

module _ {S : Type 0} {g : Ghosts S} {a b : S} (f : Fork) (k : ℕ) (r : Record) (proper : IsRecord r) (table : IsTable (g.site a).count (tab g a)) (own : WorksOn g (name.Vhd f.disk) a b) (told : g.told) where
  abbrev s : Site
  s = g.site a

  abbrev t : VolumeTable
  t = tab g a

  some : 0 < s.geometry.extent
  some = let least = s.geometry.in_range.extent_least in omega (arith, least)

  kept_first : (n : Name) → n ≢ name.Vhd f.disk → Keeps (volume_of s t (g.area a) n) (volume_of s t (g.area b) n)
  kept_first n other = other_keeps s t (g.area a) (g.area b) (name.Vhd f.disk) n table some (own.elsewhere told) other

  -- while the first is written
  pub beside_first : IsBesideFork s t f (g.area a) (g.area b) k r
  beside_first = record {
    others = λ n first second mgt. kept_first n first;
    records = λ p v below may. inl ((kept_first name.Mgt (λ e. (let x = e in cc))).may p v may);
  }

  module _ {d : S} (twin : WorksOn g (name.Vhd f.twin) b d) where
    kept_second : (n : Name) → n ≢ name.Vhd f.twin → Keeps (volume_of s t (g.area b) n) (volume_of s t (g.area d) n)
    kept_second n other = other_keeps s t (g.area b) (g.area d) (name.Vhd f.twin) n table some
        (subst₂ (λ (x : Site) y. KeepsElsewhere x.geometry.extent (extents_of (rows y (name.Vhd f.twin))) (g.area b) (g.area d)) own.stays.site own.stays.table (twin.elsewhere told)) other

    kept_both : (n : Name) → n ≢ name.Vhd f.disk → n ≢ name.Vhd f.twin → Keeps (volume_of s t (g.area a) n) (volume_of s t (g.area d) n)
    kept_both n first second = Keeps-then (kept_first n first) (kept_second n second)

    kept_records : Keeps (records_held s t (g.area a)) (records_held s t (g.area d))
    kept_records = kept_both name.Mgt (λ e. (let x = e in cc)) (λ e. (let x = e in cc))

    -- while the second is written
    pub beside_second : IsBesideFork s t f (g.area a) (g.area d) k r
    beside_second = record {
      others = λ n first second mgt. kept_both n first second;
      records = λ p v below may. inl (kept_records.may p v may);
    }

    both_stay : Stays g a d
    both_stay = stays_then own.stays twin.stays

    module _ {e : S} {Did : Held → Held → Type 0} (put : Writes g name.Mgt Did d e) where
      kept_third : (n : Name) → n ≢ name.Mgt → Keeps (volume_of s t (g.area d) n) (volume_of s t (g.area e) n)
      kept_third n other = other_keeps s t (g.area d) (g.area e) name.Mgt n table some (KeepsElsewhere-same (beside_in both_stay put told)) other

      did_there : Did (records_held s t (g.area d)) (records_held s t (g.area e))
      did_there = did_in both_stay put told

      -- while the record is, and behind it
      pub beside_third : ((x y : Held) → Did x y → Torn k (record_sector r) x y) → IsBesideFork s t f (g.area a) (g.area e) k r
      beside_third torn = record {
        others = λ n first second mgt. Keeps-then (kept_both n first second) (kept_third n mgt);
        records = λ p v below may. ⊎_elim
            (λ was. inl (kept_records.may p v was))
            (λ w. let at : p ≡ k = in_one k _ p (sector_fits r proper).long w.0 in
            inr (at, ap reading (w.1 ∙ ap (λ j. sector (record_sector r) (j - k)) at ∙ ap (sector (record_sector r)) (omega arith) ∙ sector-one (record_sector r) (sector_fits r proper).long) ∙ reading_again r proper))
            (may-torn (torn _ _ did_there) p v may);
      }

      -- a read of a new image's volume gives what it gave when it was made
      read_on : {x : Site} {y : VolumeTable} (h : Held) (n : Name) (head : Head) → head.volume ≡ n → x ≡ s → y ≡ t → IsNewImage (record { site = x; table = y; area = h }) head (volume_of s t h n) → Keeps (volume_of s t h n) (volume_of s t (g.area e) n)
          → IsMade s t (g.area e) head
      read_on {x} {y} h n head named site tables is keeps =
          subst (λ (m : Name). IsNewImage (record { site = s; table = t; area = h }) head (volume_of s t (g.area e) m)) (sym named)
          (subst (λ (v : ℕ → List ℕ). IsImage (layout_in s.geometry head.footer (size_of s t head.volume)) v head.footer head.header (λ b. None)) (fun_ext (λ p. sym (keeps.reads p)))
          (subst₂ (λ (z : Site) (w : VolumeTable). IsNewImage (record { site = z; table = w; area = h }) head (volume_of s t h n)) site tables is))

      pub filled : (first second : Head) → first.volume ≡ name.Vhd f.disk → second.volume ≡ name.Vhd f.twin → name.Vhd f.disk ≢ name.Vhd f.twin
          → IsNewImage (stored g a) first (held_in (stored g b) (name.Vhd f.disk)) → IsNewImage (stored g b) second (held_in (stored g d) (name.Vhd f.twin))
          → ((x y : Held) → Did x y → Wrote k (record_sector r) x y) → IsFilled s t first second k r (g.area a) (g.area e)
      filled first second one two apart is also wrote = record {
        own_image = read_on (g.area b) (name.Vhd f.disk) first one refl refl (subst (IsNewImage (stored g a) first) (held_stays (name.Vhd f.disk) own.stays) is)
            (Keeps-then (kept_second (name.Vhd f.disk) apart) (kept_third (name.Vhd f.disk) (λ q. (let x = q in cc))));
        twin_image = read_on (g.area d) (name.Vhd f.twin) second two own.stays.site own.stays.table (subst (IsNewImage (stored g b) second) (held_stays (name.Vhd f.twin) both_stay) also)
            (kept_third (name.Vhd f.twin) (λ q. (let x = q in cc)));
        between = records_held s t (g.area d);
        kept = kept_records;
        wrote = wrote _ _ did_there;
      }
