-- A link that a stop has cut short, taken up again: memory that is orderly and ready beside the table without the entry is so beside the
-- table with it, as the collector's operation.
use Rattle.std.proofs.Common.{◌≡◌, ℕ, ◌≤◌, ◌||◌, Bool, true, false, cond, List, [], ◌∷◌, length, filter, Option, Some, None, refl, sym, ap, ap₂, ◌∙◌, subst, arith}
use Rattle.std.specs.List.{AllByRecursion}
use Rattle.std.proofs.lemmas.Bool.{true≢false}
use Rattle.std.proofs.lemmas.Option.{none-some, same_Some}
use Rattle.common_laws.specs.Lists.{◌>>=◌}
use Rattle.common_laws.proofs.Lists.{In-map_at}
use Rattle.sm_base.specs.Kinds.{is_entry}
use Rattle.sm_base.specs.declared.names.Name.{Name}
use Rattle.sm_base.specs.declared.names.Name.TheVariants.{Mgt, Vhd, Raw, Old, Cbt, Clone, Inflate, Coalesce, Relink, Leaf}
use Rattle.sm_machine.specs.Operations as op
use Rattle.sm_disk.specs.Held.{Held, reads}
use Rattle.vg_meta.specs.Changes.{applied}
use Rattle.vg_meta.specs.Tables.{Row, VolumeTable, names_of, rows}
use Rattle.vg_meta.specs.declared.changes.Change.TheVariants.{Remove}
use Rattle.vg_meta.proofs.RowLaws.{row_of-without_other}
use Rattle.vg_volumes.specs.Sites.{Site}
use Rattle.vhd_image.specs.Bodies.{parent_name, sector_count}
use Rattle.vhd_chain.specs.Trees.{parent_of, tree_row}
use Rattle.vhd_chain.specs.declared.rows.TreeRow.{TreeRow}
use Rattle.sm_machine.specs.Shapes.{Shape, image_uuid, is_vhd, risen, same_image}
use Rattle.sm_machine.specs.WellFormed.{IsOperation}
use Rattle.sm_machine.proofs.ImageNames.{same_image-sound}
use Rattle.sm_standing.specs.Checks.{has_uuid}
use Rattle.sm_standing.specs.Entries.{folding, head, names_in}
use Rattle.sm_standing.specs.Images.{Image, image_of}
use Rattle.sm_standing.specs.Keeping.{IsKept}
use Rattle.sm_standing.specs.Opened.{linked_past}
use Rattle.sm_standing.specs.Outlines.{Link, link_of}
use Rattle.sm_standing.specs.Plain.{is_plain, is_plain_name}
use Rattle.sm_standing.specs.Unfolded.{unfolded, without_entry}
use Rattle.sm_standing.proofs.UnfoldedLaws.{alone}
use Rattle.sm_ready.specs.Known.{Known, entry_of, known, machine_row, shape_in}
use Rattle.sm_ready.specs.Does.{store_shape}
use Rattle.sm_ready.specs.Orderly.{IsOrderly}
use Rattle.sm_ready.specs.Sessions.{IsOrderlyStore, IsReadyStore}
use Rattle.sm_ready.specs.declared.memory.Memory.{Memory}
use Rattle.vg_meta.specs.Roomy.{table_alone}
use Rattle.vg_volumes.specs.Stored.{stored}
use Rattle.vg_volumes.specs.declared.stores.Store.{Ghosts}
use Rattle.sm_ready.specs.Outlined.{link_in}
use Rattle.sm_ready.specs.Ready.{IsBelow, IsReady}
use Rattle.sm_ready.specs.Stores.{content_now, store_content}
use Rattle.sm_ready.proofs.LeftLaws.{left_in, left_now, links_left}
use Rattle.sm_ready.proofs.Orders.{In-tree_row}
use Rattle.sm_ready.proofs.SameLogs.{same_logs_none}
use Rattle.gc_abandon.proofs.EntryLaws.{IsReentered, extents_entry, image_entry, orderly_entry, ready_entry}
use Rattle.sm_checks.specs.Links.{HasLink}
use Rattle.sm_recover.specs.Linking.{IsLinkBegun, LinkedBy, LinksAll, LinksRest, link_image}
use Rattle.sm_recover.specs.Repairs.{IsLinkable, IsLinking}
use Rattle.sm_recover.proofs.UnfoldLaws.{unfolded_none}

plain_no_entry : (n : Name) → is_plain_name n ≡ true → is_entry n ≡ false
plain_no_entry Mgt h = refl
plain_no_entry (Vhd u) h = refl
plain_no_entry (Raw u) h = refl
plain_no_entry (Old u) h = absurd (true≢false (sym h))
plain_no_entry (Cbt u) h = refl
plain_no_entry (Clone d b w) h = absurd (true≢false (sym h))
plain_no_entry (Inflate u k) h = absurd (true≢false (sym h))
plain_no_entry (Coalesce v p) h = absurd (true≢false (sym h))
plain_no_entry (Relink v p) h = absurd (true≢false (sym h))
plain_no_entry (Leaf l p) h = absurd (true≢false (sym h))

no_entries : (rs : List Row) → AllByRecursion (λ r. is_plain r ≡ true) rs → filter is_entry (names_of rs) ≡ []
no_entries [] all = refl
no_entries (r ∷ rs) all = ap (λ b. cond b (r.name ∷ filter is_entry (names_of rs)) (filter is_entry (names_of rs))) (plain_no_entry r.name all.0) ∙ no_entries rs all.1

-- where the entry of a link is there, one entry at least is
pub one_folding : (ns : List Name) (v : Name) → link_image (head ns) ≡ Some v → 1 ≤ length ns
one_folding [] v is = absurd (none-some v is)
one_folding (n ∷ ns) v is = omega arith

-- the name of an image of a UUID
pub uuid_named : (u : List ℕ) (n : Name) → has_uuid u n ≡ true → image_uuid n ≡ u
unfolding image_uuid
uuid_named u n h = by (same_image n (Vhd u)) (same_image n (Raw u)) refl refl h
  where
    by : (a b : Bool) → same_image n (Vhd u) ≡ a → same_image n (Raw u) ≡ b → (a || b) ≡ true → image_uuid n ≡ u
    by true b vhd raw is = ap image_uuid (same_image-sound n (Vhd u) vhd)
    by false true vhd raw is = ap image_uuid (same_image-sound n (Raw u) raw)
    by false false vhd raw is = absurd (true≢false (sym is))

-- the parent that memory finds
pub parent_found : (xs : List TreeRow) (v p : Name) → HasLink xs v p → parent_of xs v ≡ Some p
parent_found xs v p l = ap (λ (o : Option TreeRow). o >>= (λ r. parent_name r.image)) l.there ∙ l.linked

pub one_parent : (xs : List TreeRow) (v p q : Name) → HasLink xs v p → HasLink xs v q → p ≡ q
one_parent xs v p q l k = same_Some p q (sym (parent_found xs v p l) ∙ parent_found xs v q k)

-- an image by what is told of it
pub record IsLinkedImage (o : Option Image) (x : TreeRow) : Type 0 where
  pub image : Image
  pub is : o ≡ Some image
  pub size : image.size ≡ sector_count x.image
  pub parent : image.parent ≡ parent_name x.image

image_by_link : (o : Option Image) (x : TreeRow) → link_of o ≡ link_in (Some x) → IsLinkedImage o x
image_by_link None x is = absurd (none-some _ is)
image_by_link (Some i) x is =
    let same = same_Some (record { size = i.size; parent = i.parent }) (record { size = sector_count x.image; parent = parent_name x.image }) is in
    record { image = i; is = refl; size = ap (λ (l : Link). l.size) same; parent = ap (λ (l : Link). l.parent) same }

module _ (s : Site) (t : VolumeTable) (c q : List ℕ) (k : IsLinking s t c q) (p : Name) (uuid : has_uuid q p ≡ true) (m : Known) (l : HasLink m.rows (Vhd c) p) where
  abbrev e : Name
  e = Relink c q

  abbrev pub less : VolumeTable
  less = applied t (Remove e)

  abbrev pub running : Known
  running = record m { op = op.Relink (Vhd c) p }

  not_entry : (n : Name) → is_entry n ≡ false → rows t n ≡ rows less n
  not_entry n none = sym (row_of-without_other t.volumes e n (λ is. true≢false (ap is_entry is ∙ none)))

  again : IsReentered s less t
  again = record { table = k.table; same = not_entry; past = λ n image there was. k.past n image there }

  entries : names_in t is_entry ≡ entry_of (op.Relink (Vhd c) p)
  unfolding image_uuid
  entries = alone e is_entry refl t.volumes k.entry k.there (no_entries less.volumes k.rest.plain) ∙ ap (λ u. Relink c u ∷ []) (sym (uuid_named q p uuid))

  works : IsOperation (shape_in s less m) (op.Relink (Vhd c) p)
  unfolding shape_in is_vhd
  works = let w = In-tree_row m.rows (Vhd c) l.child l.there in record { child = machine_row l.child; there = In-map_at machine_row m.rows l.child w.0; is_named = w.1; is_shown = l.hidden; vhd = refl; linked = l.linked }

  module _ (o : IsOrderly s less m) where
    pub orderly_running : IsOrderly s t running
    orderly_running = orderly_entry s less t m o again (op.Relink (Vhd c) p) entries (λ w. works) tt

    module _ (area : Held) (ready : IsReady s less area m) (kept : IsKept (content_now s t area)) where
      linked_image : (n : Name) (x : TreeRow) → tree_row m.rows n ≡ Some x → IsLinkedImage (image_of (content_now s t area) n) x
      linked_image n x there =
          image_by_link _ x (ap link_of (image_entry s less t m running (reads area) o orderly_running not_entry n)
          ∙ links_left s less area m (reads area) n o ready.firm (left_in s less m area (reads area) o (left_now s area)) ∙ ap link_in there)

      below : IsBelow (content_now s t area) (op.Relink (Vhd c) p)
      below =
          let v = linked_image (Vhd c) l.child l.there in
          let u = linked_image p l.parent l.parent_there in
          record {
            child = v.image;
            parent = u.image;
            image = v.is;
            under = u.is;
            size = u.size ∙ l.same_size ∙ sym v.size;
            held = λ j bytes under clean holds. kept.linking c q k.entry v.image u.image p k.there v.is (v.parent ∙ l.linked) u.is j bytes holds;
          }

      pub ready_running : IsReady s t area running
      ready_running = ready_entry s less t m (op.Relink (Vhd c) p) (extents_entry s less t m o again) area ready below

-- ---- in a store

-- the link whose entry is found
pub record IsFoundLink (s : Site) (t : VolumeTable) (xs : List TreeRow) (h : Option Name) (v : Name) : Type 0 where
  pub child : List ℕ
  pub parent : List ℕ
  pub is : h ≡ Some (Relink child parent)
  pub named : v ≡ Vhd child
  pub linking : IsLinking s t child parent
  pub under : Name
  pub link : HasLink xs (Vhd child) under
  pub uuid : has_uuid parent under ≡ true

found_link : (s : Site) (t : VolumeTable) (xs : List TreeRow) (h : Option Name) (v : Name) → IsLinkable s t xs h → Some v ≡ link_image h → IsFoundLink s t xs h v
found_link s t xs (Some (Relink c q)) v (k, n, l, u) is = record { child = c; parent = q; is = refl; named = same_Some v (Vhd c) is; linking = k; under = n; link = l; uuid = u }
found_link s t xs None v able is = absurd (none-some v (sym is))
found_link s t xs (Some Mgt) v able is = absurd able
found_link s t xs (Some (Vhd u)) v able is = absurd able
found_link s t xs (Some (Raw u)) v able is = absurd able
found_link s t xs (Some (Old u)) v able is = absurd able
found_link s t xs (Some (Cbt u)) v able is = absurd able
found_link s t xs (Some (Clone d b w)) v able is = absurd able
found_link s t xs (Some (Inflate u j)) v able is = absurd able
found_link s t xs (Some (Coalesce u j)) v able is = absurd able
found_link s t xs (Some (Leaf u j)) v able is = absurd able

no_link : (s : Site) (t : VolumeTable) (xs : List TreeRow) (h : Option Name) → IsLinkable s t xs h → None ≡ link_image h → h ≡ None
no_link s t xs None able is = refl
no_link s t xs (Some (Relink c q)) able is = absurd (none-some (Vhd c) is)
no_link s t xs (Some Mgt) able is = absurd able
no_link s t xs (Some (Vhd u)) able is = absurd able
no_link s t xs (Some (Raw u)) able is = absurd able
no_link s t xs (Some (Old u)) able is = absurd able
no_link s t xs (Some (Cbt u)) able is = absurd able
no_link s t xs (Some (Clone d b w)) able is = absurd able
no_link s t xs (Some (Inflate u j)) able is = absurd able
no_link s t xs (Some (Coalesce u j)) able is = absurd able
no_link s t xs (Some (Leaf u j)) able is = absurd able

module _ {S : Type 0} (g : Ghosts S) (a : S) (m : Memory) (able : IsLinkable (g.site a) (table_alone (g.table a)) m.tree.rows (head (folding (table_alone (g.table a)))))
    (o : IsOrderly (g.site a) (unfolded (table_alone (g.table a))) (known m)) where
  abbrev t : VolumeTable
  t = table_alone (g.table a)

  -- where nothing is linked
  module _ (none : None ≡ link_image (head (folding t))) where
    no_entry : head (folding t) ≡ None
    no_entry = no_link (g.site a) t m.tree.rows (head (folding t)) able none

    pub same_table : unfolded t ≡ t
    same_table = unfolded_none no_entry

    pub none_orderly : IsOrderlyStore g a m
    none_orderly = subst (λ u. IsOrderly (g.site a) u (known m)) same_table o

    pub none_shape : LinkedBy (head (folding t)) m.tree.rows (shape_in (g.site a) (unfolded t) (known m)) (store_shape g a m)
    none_shape = subst (λ h. LinkedBy h m.tree.rows (shape_in (g.site a) (unfolded t) (known m)) (store_shape g a m)) (sym no_entry) (sym (ap (λ u. shape_in (g.site a) u (known m)) same_table))

    pub none_rest : IsLinkBegun (stored g a) (known m) → LinksRest g a a m
    none_rest b = record { ready = subst (λ u. IsReady (g.site a) u (g.area a) (known m)) same_table b.ready; settled = b.settled; same_disks = refl; same_logs = same_logs_none (store_content g a) }

  -- where children are linked
  module _ (v n : Name) (some : Some v ≡ link_image (head (folding t))) (under : Some n ≡ parent_of m.tree.rows v) where
    f : IsFoundLink (g.site a) t m.tree.rows (head (folding t)) v
    f = found_link (g.site a) t m.tree.rows (head (folding t)) v able some

    is_under : f.under ≡ n
    is_under = same_Some f.under n (sym (parent_found m.tree.rows (Vhd f.child) f.under f.link) ∙ sym (ap (parent_of m.tree.rows) f.named) ∙ sym under)

    is_less : unfolded t ≡ applied t (Remove (Relink f.child f.parent))
    unfolding unfolded
    is_less = ap (without_entry t) f.is

    abbrev pub begun : Memory
    begun = record m { operation = op.Relink v n }

    as_begun : running (g.site a) t f.child f.parent f.linking f.under f.uuid (known m) f.link ≡ known begun
    as_begun = ap₂ (λ x y. record (known m) { op = op.Relink x y }) (sym f.named) is_under

    o_less : IsOrderly (g.site a) (applied t (Remove (Relink f.child f.parent))) (known m)
    o_less = subst (λ u. IsOrderly (g.site a) u (known m)) is_less o

    pub begun_orderly : IsOrderlyStore g a begun
    begun_orderly = subst (IsOrderly (g.site a) t) as_begun (orderly_running (g.site a) t f.child f.parent f.linking f.under f.uuid (known m) f.link o_less)

    pub begun_ready : IsLinkBegun (stored g a) (known m) → IsReadyStore g a begun
    begun_ready b = subst (IsReady (g.site a) t (g.area a)) as_begun
        (ready_running (g.site a) t f.child f.parent f.linking f.under f.uuid (known m) f.link o_less (g.area a) (subst (λ u. IsReady (g.site a) u (g.area a) (known m)) is_less b.ready) b.kept)

    -- the operation's entry
    begun_entry : entry_of (op.Relink v n) ≡ Relink f.child f.parent ∷ []
    unfolding image_uuid
    begun_entry = ap₂ (λ x y. Relink (image_uuid x) y ∷ []) f.named (ap image_uuid (sym is_under) ∙ uuid_named f.parent f.under f.uuid)

    module _ {d : S} {k : Memory} (all : LinksAll g a begun d k) where
      pub all_table : table_alone (g.table d) ≡ unfolded t
      all_table = all.table (Relink f.child f.parent) begun_entry ∙ sym is_less

      pub all_rest : g.told → IsLinkBegun (stored g a) (known m) → LinksRest g a d k
      all_rest told b = all.rest told b.settled (begun_ready b)

      pub all_shape : m.operation ≡ op.Idle → LinkedBy (head (folding t)) m.tree.rows (shape_in (g.site a) (unfolded t) (known m)) (store_shape g d k)
      unfolding shape_in
      all_shape idle = subst (λ h. LinkedBy h m.tree.rows (shape_in (g.site a) (unfolded t) (known m)) (store_shape g d k)) (sym f.is) (λ q link.
          all.shape
          ∙ ap₂ (λ x y. let z : Shape = record (linked_past x y (shape_in (g.site a) (unfolded t) (known m))) { sequence = risen t.sequence 1; op = op.Idle } in z) f.named
          (sym is_under ∙ one_parent m.tree.rows (Vhd f.child) f.under q f.link link)
          ∙ ap₂ (λ j x. let z : Shape = record (linked_past (Vhd f.child) q (shape_in (g.site a) (unfolded t) (known m))) { sequence = j; op = x } in z) (sym (ap (λ (u : VolumeTable). u.sequence) is_less)) (sym idle))
