-- What the checks leave known stays while volumes that are new are removed, and the text of such a table fits its slot.
use Rattle.std.proofs.Common.{◌≡◌, ◌≤◌, true, List, [], length, ap, ◌∙◌, subst, sym, arith}
use Rattle.std.proofs.lemmas.Bool.{true≢false}
use Rattle.sm_base.specs.Kinds.{is_image as is_data, is_entry, is_log}
use Rattle.sm_base.specs.declared.names.Name.{Name}
use Rattle.vg_meta.specs.Changes.{applied}
use Rattle.vg_meta.specs.Tables.{VolumeTable, Row, extents_of, names_of}
use Rattle.vg_meta.specs.Text.{text}
use Rattle.vg_meta.specs.declared.changes.Change.TheVariants.{Remove}
use Rattle.vg_meta.proofs.ByName.{mgt_stays}
use Rattle.vg_meta.proofs.ChangeLaws.{IsTable-applied}
use Rattle.vg_meta.proofs.RowLaws.{All-without}
use Rattle.vg_volumes.specs.Sites.{Site, text_limit}
use Rattle.common_laws.proofs.Lists.{In-filter, In-map}
use Rattle.sm_standing.specs.Entries.{names_in}
use Rattle.sm_standing.specs.Plain.{IsPlain, is_plain}
use Rattle.sm_standing.proofs.PlainDisks.{all-In}
use Rattle.sm_standing.proofs.PlainKept.{not_special}
use Rattle.sm_ready.specs.Repairs.{IsNewVolume}
use Rattle.sm_ready.proofs.FitLaws.{fits_few}
use Rattle.sm_ready.proofs.GoneLaws.{fewer_left}
use Rattle.sm_ready.proofs.NewVolumeLaws.{may_remove}
use Rattle.sm_ready.proofs.Orders.{none_of}
use Rattle.sm_recover.specs.Repairs.{IsChecked}

pub checked_one : {s : Site} {t : VolumeTable} (n : Name) → IsChecked s t → IsNewVolume t n → IsChecked s (applied t (Remove n))
checked_one {s} {t} n c new =
    let may = may_remove c.table new in
    record {
      table = IsTable-applied s.count t (Remove n) c.table may;
      few_extents = c.few_extents;
      plain = All-without (λ q. is_plain q ≡ true) t.volumes n c.plain;
      few_images = omega (arith, fewer_left (λ q. is_data q.name) n t.volumes, c.few_images);
      few_logs = omega (arith, fewer_left (λ q. is_log q.name) n t.volumes, c.few_logs);
      record_volume = ap (λ o. length (extents_of o)) (mgt_stays s.count t (Remove n) c.table may) ∙ c.record_volume;
    }

pub checked_more : {s : Site} {t u : VolumeTable} (n : Name) → IsChecked s t → IsNewVolume t n → u ≡ applied t (Remove n) → IsChecked s u
checked_more {s} n c new is = subst (IsChecked s) (sym is) (checked_one n c new)

-- ---- the text

-- where nothing is under way there is no journal entry
pub no_entry : (t : VolumeTable) → IsPlain t → names_in t is_entry ≡ []
no_entry t plain = none_of (names_in t is_entry) (λ n i.
    let w = In-filter is_entry (names_of t.volumes) n i in
    let r = In-map (λ (r : Row). r.name) t.volumes n w.0 in
    true≢false (sym w.1 ∙ ap is_entry r.2 ∙ (not_special r.0.name (all-In (λ (x : Row). is_plain x ≡ true) t.volumes r.0 plain r.1)).no_journal))

pub text_fits : {s : Site} {t : VolumeTable} → IsChecked s t → length (text t) ≤ text_limit s.count
text_fits {s} {t} c = fits_few s.count t c.table c.few_extents c.few_images c.few_logs (omega (arith, ap (λ (ns : List Name). length ns) (no_entry t c.plain)))
