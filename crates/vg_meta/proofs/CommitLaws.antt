-- What a commit asks of a change and of the text that it would leave.
use Rattle.std.proofs.Common.{ℕ, ◌<◌, ◌≤◌, ◌^◌, List, [], ◌∷◌, length, arith, length-append}
use Rattle.vg_meta.specs.declared.changes.Change.{Change}
use Rattle.vg_meta.specs.declared.changes.Change.TheVariants.{Create, Remove, Rename, Grow, Cut, Mark}
use Rattle.vg_meta.specs.Tables.{Row, VolumeTable, IsTable}
use Rattle.vg_meta.specs.Text.{text, volume_text, HasText}
use Rattle.vg_meta.specs.Writing.{volumes_text}
use Rattle.vg_meta.specs.Changes.{AreFree, AllowsIn, Permits}
use Rattle.vg_meta.proofs.ExtentLaws.{All-weaken}
use Rattle.vg_meta.proofs.DecodeLaws.{used-le}
use Rattle.vg_meta.proofs.WriteLaws.{length-text, length-volume_text}

-- ---- a short text is of few volumes

volumes_most : (rs : List Row) → length rs ≤ length (volumes_text rs)
volumes_most [] = omega arith
volumes_most (r ∷ rs) = omega (arith, length-append (volume_text r) (volumes_text rs), length-volume_text r, volumes_most rs)

-- a table of few extents whose text is short has few volumes, too
pub HasText-few : (count : ℕ) (t : VolumeTable) → IsTable count t → count < 2 ^ 32 → length (text t) < 2 ^ 32 → HasText t
HasText-few count t table few short = record {
  volumes = omega (arith, length-text t, volumes_most t.volumes, short);
  extents = omega (arith, used-le count t.volumes table.volumes, few);
}

-- ---- a change that is allowed below a count is allowed below a greater one

AreFree-wider : (count wide : ℕ) (rs : List Row) (es : List ℕ) → count ≤ wide → AreFree count rs es → AreFree wide rs es
AreFree-wider count wide rs es le f = record {
  below = All-weaken (λ (e : ℕ). e < count) (λ (e : ℕ). e < wide) es (λ e lt. omega arith) f.below;
  unused = f.unused;
  distinct = f.distinct;
}

pub AllowsIn-wider : (count wide : ℕ) (rs : List Row) (change : Change) → count ≤ wide → AllowsIn count rs change → AllowsIn wide rs change
AllowsIn-wider count wide rs (Create name fresh es) le a = record {
  name_proper = a.name_proper;
  new_name = a.new_name;
  not_mgt = a.not_mgt;
  kind = a.kind;
  extents_free = AreFree-wider count wide rs es le a.extents_free;
}
AllowsIn-wider count wide rs (Remove name) le a = a
AllowsIn-wider count wide rs (Rename from to) le a = a
AllowsIn-wider count wide rs (Grow name es) le a = record {
  row = a.row;
  there = a.there;
  image = a.image;
  some_extents = a.some_extents;
  extents_free = AreFree-wider count wide rs es le a.extents_free;
}
AllowsIn-wider count wide rs (Cut name keep) le a = a
AllowsIn-wider count wide rs (Mark name tag on) le a = a

pub Permits-wider : (count wide : ℕ) (t : VolumeTable) (change : Change) → count ≤ wide → Permits count t change → Permits wide t change
Permits-wider count wide t change le a = AllowsIn-wider count wide t.volumes change le a
