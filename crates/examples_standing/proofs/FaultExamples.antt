-- The faults of small contents.
use Rattle.std.proofs.Common.{◌≡◌, ◌≢◌, ℕ, zero, suc, ◌+◌, ◌<◌, ◌≤◌, ◌⊎◌, inl, inr, Bool, true, false, cond, not, ◌&&◌, ◌||◌, ◌==◌, List, [], ◌∷◌, ◌++◌, length, map, replicate, Option, Some, None, is_none, refl, sym, ap, ap₂, ◌∙◌, arith, nat_lt}
use Rattle.std.specs.Prelude.{nat_le}
use Rattle.std.specs.List.{filter, find}
use Rattle.std.proofs.lemmas.Bool.{cases_lt, lt-leb, le-leb, and_left, and_right}
use Rattle.std.proofs.lemmas.Bool.Decides.{nat_tests}
use Rattle.common_laws.proofs.Booleans.{third_fails, second_fails, all_hold}
use Rattle.sm_base.specs.Numbers.{div_up}
use Rattle.sm_base.specs.declared.faults.Place.TheVariants as at
use Rattle.sm_base.specs.declared.names.Name.{Name}
use Rattle.sm_base.specs.declared.names.Name.TheVariants.{Mgt, Vhd, Raw}
use Rattle.sm_disk.specs.Sectors.{zeros}
use Rattle.common_laws.specs.Lists.{In, numbers, given}
use Rattle.sm_machine.specs.Shapes.{same_image}
use Rattle.sm_record.specs.declared.records.Record.{Record}
use Rattle.sm_record.specs.declared.records.Reading.TheVariants.{Free}
use Rattle.sm_record.specs.Records.{reading, record_in}
use Rattle.sm_record.proofs.RoundTrips.{reading_zeros}
use Rattle.vg_layout.specs.Places.{record_extents}
use Rattle.sm_base.specs.Kinds.{is_image as is_data}
use Rattle.vg_meta.specs.Tables.{Row, row_of, name_eq}
use Rattle.vg_volumes.specs.Volumes.{piece}
use Rattle.sm_standing.specs.Checks.{first_name, name_in, placed, record_volume_fault, too_many_fault, invalid_fault, children, parent_is, chain_length, is_no_larger, is_linked, is_tree_wrong, tree_fault, is_parent_right, of_image, has_such_parent, has_parent_of, has_uuid, children_with, is_base_of, is_entry_linked, entry_link_fault, is_damaged, record_place, record_fault, disk_place, is_unrecorded, disk_fault}
use Rattle.sm_standing.specs.Outlines.{Outline, Link, reading_in, outline}
use Rattle.sm_standing.specs.Contents.{Content, reading_at, sectors_of, taken, record_count, records, is_record_of}
use Rattle.sm_standing.specs.Entries.{image_with}
use Rattle.examples_standing.specs.SmallContents.{one, two, three, four, shown_row, hidden_row, sized_row, crowd, content_on, empty_content}
use Rattle.examples_standing.specs.FaultyContents as content
use Rattle.examples_standing.specs.SmallTables as table
use Rattle.sm_standing.specs.Images.{image_of}
use Rattle.sm_standing.specs.Standing.{standing_volume, uuids, in_order, with_uuid}
use Rattle.common_laws.proofs.Lists.{find_none, filter-In, In-numbers}
use Rattle.sm_standing.proofs.RecordLists.{filter_none}
use Rattle.sm_standing.proofs.WalkLaws.{length_up, length_top}
use Rattle.sm_standing.proofs.FaultLaws.{wrong_at}
use Rattle.sm_standing.proofs.OutlineLaws.{reading_within, outline_records_same}

-- ---- the volume of records

volume_at : (extents : List ℕ) (n : ℕ) → length extents ≡ n → record_volume_fault (outline (empty_content extents)) ≡ given (not (n == 16)) at.Mgt
unfolding record_volume_fault row_of name_eq record_extents div_up
volume_at extents n long = ap (λ k. given (not (k == 16)) at.Mgt) long

pub volume_few : (extents : List ℕ) → length extents ≡ 15 → record_volume_fault (outline (empty_content extents)) ≡ Some at.Mgt
volume_few extents long = volume_at extents 15 long

pub volume_many : (extents : List ℕ) → length extents ≡ 17 → record_volume_fault (outline (empty_content extents)) ≡ Some at.Mgt
volume_many extents long = volume_at extents 17 long

pub volume_right : (extents : List ℕ) → length extents ≡ 16 → record_volume_fault (outline (empty_content extents)) ≡ None
volume_right extents long = volume_at extents 16 long

-- ---- the number of images

crowd_images : (ks : List ℕ) → length (filter (λ r. is_data r.name) (map (λ k. shown_row (Raw (k ∷ []))) ks)) ≡ length ks
crowd_images [] = refl
crowd_images (k ∷ ks) = ap suc (crowd_images ks)

length-numbers : (a n : ℕ) → length (numbers a n) ≡ n
unfolding numbers
length-numbers a zero = refl
length-numbers a (suc n) = ap suc (length-numbers (a + 1) n)

crowd_at : (area : ℕ → List ℕ) (n : ℕ) → too_many_fault (outline (content_on (crowd n) area)) ≡ given (nat_lt 500 n) at.Images
unfolding too_many_fault
crowd_at area n = ap (λ k. given (nat_lt 500 k) at.Images) (crowd_images (numbers 0 n) ∙ length-numbers 0 n)

pub crowd_many : (area : ℕ → List ℕ) → too_many_fault (outline (content_on (crowd 501) area)) ≡ Some at.Images
crowd_many area = crowd_at area 501

pub crowd_most : (area : ℕ → List ℕ) → too_many_fault (outline (content_on (crowd 500) area)) ≡ None
crowd_most area = crowd_at area 500

-- ---- each image by itself

pub invalid_image : (area : ℕ → List ℕ) → (outline (content.lone_image area)).links (Vhd one) ≡ None → invalid_fault (outline (content.lone_image area)) ≡ Some (at.Image (Vhd one))
unfolding invalid_fault first_name
invalid_image area is = ap (λ o. placed at.Image (name_in (cond (is_none o) (Some (shown_row (Vhd one))) None))) is

pub valid_image : (area : ℕ → List ℕ) (i : Link) → (outline (content.lone_image area)).links (Vhd one) ≡ Some i → invalid_fault (outline (content.lone_image area)) ≡ None
unfolding invalid_fault first_name
valid_image area i is = ap (λ o. placed at.Image (name_in (cond (is_none o) (Some (shown_row (Vhd one))) None))) is

-- ---- trees

first_fails : (a b : Bool) → a ≡ false → not (a && b) ≡ true
first_fails true b h = absurd (let e = h in cc)
first_fails false b h = refl

some_length : {A : Type 0} (xs : List A) (x : A) → In x xs → (length xs == 0) ≡ false
some_length [] x h = elim h [ ]
some_length (y ∷ xs) x h = grind (arith, nat_tests)

-- a volume whose image has this parent is one of its children
child-In : (c : Outline) (r : Row) (p : Name) (i : Link) → In r c.table.volumes → c.links r.name ≡ Some i → i.parent ≡ Some p → same_image p p ≡ true → In r (children c p)
unfolding children
child-In c r p i there is parent named =
    filter-In (λ s. parent_is p (c.links s.name)) c.table.volumes r there
    (ap (parent_is p) is ∙ ap (λ o. elim o [ None ↦ false | Some q ↦ same_image q p ]) parent ∙ named)

linked_at : (c : Outline) (i : Link) (p : Name) → i.parent ≡ Some p → is_linked c i ≡ is_parent_right c i.size p
linked_at c i p h = ap (λ o. elim o [ None ↦ true | Some q ↦ is_parent_right c i.size q ]) h

tree_first : (c : Outline) (u : List ℕ) (r : Row) (rs : List Row) → c.table.volumes ≡ r ∷ rs → r.name ≡ Vhd u → is_tree_wrong c r ≡ true → tree_fault c ≡ Some (at.Tree (Vhd u))
unfolding tree_fault first_name
tree_first c u r rs is name wrong =
    ap (λ vs. placed at.Tree (name_in (find (is_tree_wrong c) vs))) is
    ∙ ap (λ b. placed at.Tree (name_in (cond b (Some r) (find (is_tree_wrong c) rs)))) wrong
    ∙ ap (λ n. Some (at.Tree n)) name

pub tree_gone : (area : ℕ → List ℕ) (i : Link) → (outline (content.lone_image area)).links (Vhd one) ≡ Some i → i.parent ≡ Some (Vhd two)
    → tree_fault (outline (content.lone_image area)) ≡ Some (at.Tree (Vhd one))
unfolding row_of name_eq
tree_gone area i is parent =
    let c = outline (content.lone_image area) in
    tree_first c one (shown_row (Vhd one)) [] refl refl (wrong_at c one (shown_row (Vhd one)) i refl is
    ∙ first_fails (is_linked c i) _ (linked_at c i (Vhd two) parent))

pub tree_larger : (area : ℕ → List ℕ) (i j : Link) → (outline (content.child_and_parent area)).links (Vhd one) ≡ Some i → i.parent ≡ Some (Vhd two)
    → (outline (content.child_and_parent area)).links (Vhd two) ≡ Some j → i.size < j.size → tree_fault (outline (content.child_and_parent area)) ≡ Some (at.Tree (Vhd one))
unfolding row_of name_eq
tree_larger area i j is parent below larger =
    let c = outline (content.child_and_parent area) in
    tree_first c one (shown_row (Vhd one)) (hidden_row (Vhd two) ∷ []) refl refl (wrong_at c one (shown_row (Vhd one)) i refl is
    ∙ first_fails (is_linked c i) _ (linked_at c i (Vhd two) parent ∙ ap (is_no_larger i.size) below ∙ lt-leb j.size i.size larger))

pub tree_visible : (area : ℕ → List ℕ) (j i : Link) → (outline (content.child_and_parent area)).links (Vhd one) ≡ Some i
    → (outline (content.child_and_parent area)).links (Vhd two) ≡ Some j → j.parent ≡ Some (Vhd one) → tree_fault (outline (content.child_and_parent area)) ≡ Some (at.Tree (Vhd one))
unfolding same_image
tree_visible area j i is below parent =
    let c = outline (content.child_and_parent area) in
    tree_first c one (shown_row (Vhd one)) (hidden_row (Vhd two) ∷ []) refl refl (wrong_at c one (shown_row (Vhd one)) i refl is
    ∙ third_fails (is_linked c i) (nat_le (chain_length c 31 (Vhd one)) 30) (length (children c (Vhd one)) == 0)
    (some_length (children c (Vhd one)) (hidden_row (Vhd two)) (child-In c (hidden_row (Vhd two)) (Vhd one) j (inr (inl refl)) below parent refl)))

around : (c : Outline) (n m : Name) (i j : Link) → c.links n ≡ Some i → i.parent ≡ Some m → c.links m ≡ Some j → j.parent ≡ Some n
    → (k : ℕ) → (chain_length c k n ≡ k) × (chain_length c k m ≡ k)
unfolding chain_length
around c n m i j is up js back zero = (refl, refl)
around c n m i j is up js back (suc k) =
    let w = around c n m i j is up js back k in
    (length_up c k n m i is up ∙ ap suc w.1, length_up c k m n j js back ∙ ap suc w.0)

pub tree_endless : (area : ℕ → List ℕ) (i j : Link) → (outline (content.two_hidden area)).links (Vhd one) ≡ Some i → i.parent ≡ Some (Vhd two)
    → (outline (content.two_hidden area)).links (Vhd two) ≡ Some j → j.parent ≡ Some (Vhd one) → tree_fault (outline (content.two_hidden area)) ≡ Some (at.Tree (Vhd one))
tree_endless area i j is up js back =
    let c = outline (content.two_hidden area) in
    tree_first c one (hidden_row (Vhd one)) (hidden_row (Vhd two) ∷ []) refl refl (wrong_at c one (hidden_row (Vhd one)) i refl is
    ∙ second_fails (is_linked c i) (nat_le (chain_length c 31 (Vhd one)) 30) true (ap (λ k. nat_le k 30) (around c (Vhd one) (Vhd two) i j is up js back 31).0))

-- ---- entries

-- where an entry's condition fails, it is the fault, unless one in front of it fails
link_here : (b : Bool) (n : Name) (r : Row) → r.name ≡ n → b ≡ false → placed at.Journal (name_in (cond (not b) (Some r) None)) ≡ Some (at.Journal n)
link_here true n r name h = absurd (let e = h in cc)
link_here false n r name h = ap (λ m. Some (at.Journal m)) name

and_third : (a b d : Bool) → d ≡ false → (a && (b && d)) ≡ false
and_third true true d h = h
and_third true false d h = refl
and_third false b d h = refl

no_parent : (c : Outline) (child parent : List ℕ) (test : Link → Link → Bool) (i : Link) → c.links (Vhd child) ≡ Some i → i.parent ≡ None → has_parent_of c child parent test ≡ false
no_parent c child parent test i is none = ap (of_image (λ v. has_such_parent c parent (test v) v.parent)) is ∙ ap (has_such_parent c parent (test i)) none

pub link_orphan : (area : ℕ → List ℕ) (i : Link) → (outline (content.copied_alone area)).links (Vhd two) ≡ Some i → i.parent ≡ None
    → entry_link_fault (outline (content.copied_alone area)) ≡ Some (at.Journal table.coalesce)
unfolding entry_link_fault first_name is_entry_linked
link_orphan area i is none =
    let c = outline (content.copied_alone area) in
    link_here _ table.coalesce (shown_row table.coalesce) refl
    (and_left (has_parent_of c two three (λ v p. true)) (length (children_with c three) == 1) (no_parent c two three (λ v p. true) i is none))

In-left : {A : Type 0} (x : A) (xs ys : List A) → In x xs → In x (xs ++ ys)
In-left x [] ys h = elim h [ ]
In-left x (z ∷ xs) ys (inl is) = inl is
In-left x (z ∷ xs) ys (inr h) = inr (In-left x xs ys h)

-- a list with two elements is longer than one
two_long : {A : Type 0} (xs : List A) (x y : A) → In x xs → In y xs → x ≢ y → (length xs == 1) ≡ false
two_long [] x y h k other = elim h [ ]
two_long (z ∷ []) x y (inl is) (inl at) other = absurd (other (is ∙ sym at))
two_long (z ∷ []) x y (inl is) (inr k) other = elim k [ ]
two_long (z ∷ []) x y (inr h) k other = elim h [ ]
two_long (z ∷ (w ∷ xs)) x y h k other = grind (arith, nat_tests)

rows_differ : (r s : Row) → r.name ≢ s.name → r ≢ s
rows_differ r s other is = other (ap (λ (q : Row). q.name) is)

pub link_other : (area : ℕ → List ℕ) (i j : Link) → (outline (content.copied_beside area)).links (Vhd two) ≡ Some i → i.parent ≡ Some (Vhd three)
    → (outline (content.copied_beside area)).links (Vhd four) ≡ Some j → j.parent ≡ Some (Vhd three) → entry_link_fault (outline (content.copied_beside area)) ≡ Some (at.Journal table.coalesce)
unfolding entry_link_fault first_name is_entry_linked same_image
link_other area i j is up js back =
    let c = outline (content.copied_beside area) in
    link_here _ table.coalesce (shown_row table.coalesce) refl
    (and_right (has_parent_of c two three (λ v p. true)) (length (children_with c three) == 1)
    (two_long (children_with c three) (hidden_row (Vhd two)) (shown_row (Vhd four))
    (In-left (hidden_row (Vhd two)) (children c (Vhd three)) (children c (Raw three)) (child-In c (hidden_row (Vhd two)) (Vhd three) i (inl refl) is up refl))
    (In-left (shown_row (Vhd four)) (children c (Vhd three)) (children c (Raw three)) (child-In c (shown_row (Vhd four)) (Vhd three) j (inr (inr (inl refl))) js back refl))
    (rows_differ (hidden_row (Vhd two)) (shown_row (Vhd four)) (λ e. (let x = e in cc)))))

pub link_smaller : (area : ℕ → List ℕ) (i j : Link) → (outline (content.left_alone area)).links (Vhd two) ≡ Some i → i.parent ≡ Some (Vhd three)
    → (outline (content.left_alone area)).links (Vhd three) ≡ Some j → j.size < i.size → entry_link_fault (outline (content.left_alone area)) ≡ Some (at.Journal table.relink)
unfolding entry_link_fault first_name is_entry_linked same_image
link_smaller area i j is up js smaller =
    let c = outline (content.left_alone area) in
    link_here (has_parent_of c two three (λ v p. nat_le v.size p.size)) table.relink (shown_row table.relink) refl
    (ap (of_image (λ v. has_such_parent c three (λ p. nat_le v.size p.size) v.parent)) is
    ∙ ap (has_such_parent c three (λ p. nat_le i.size p.size)) up
    ∙ ap (of_image (λ p. nat_le i.size p.size)) js
    ∙ lt-leb i.size j.size smaller)

pub link_leaf : (area : ℕ → List ℕ) (i j : Link) → (outline (content.leaf_beside area)).links (Vhd one) ≡ Some i → i.parent ≡ Some (Vhd two)
    → (outline (content.leaf_beside area)).links (Vhd three) ≡ Some j → j.parent ≡ Some (Vhd two) → entry_link_fault (outline (content.leaf_beside area)) ≡ Some (at.Journal table.leaf)
unfolding entry_link_fault first_name is_entry_linked same_image row_of name_eq
link_leaf area i j is up js back =
    let c = outline (content.leaf_beside area) in
    link_here _ table.leaf (shown_row table.leaf) refl
    (and_right (parent_is (Vhd two) (c.links (Vhd one))) (length (children c (Vhd two)) == 1)
    (two_long (children c (Vhd two)) (shown_row (Vhd one)) (shown_row (Vhd three))
    (child-In c (shown_row (Vhd one)) (Vhd two) i (inl refl) is up refl)
    (child-In c (shown_row (Vhd three)) (Vhd two) j (inr (inr (inl refl))) js back refl)
    (rows_differ (shown_row (Vhd one)) (shown_row (Vhd three)) (λ e. (let x = e in cc)))))

pub link_leaf_orphan : (area : ℕ → List ℕ) (i : Link) → (outline (content.leaf_beside area)).links (Vhd one) ≡ Some i → i.parent ≡ None
    → entry_link_fault (outline (content.leaf_beside area)) ≡ Some (at.Journal table.leaf)
unfolding entry_link_fault first_name is_entry_linked same_image row_of name_eq
link_leaf_orphan area i is none =
    let c = outline (content.leaf_beside area) in
    link_here _ table.leaf (shown_row table.leaf) refl
    (and_left (parent_is (Vhd two) (c.links (Vhd one))) (length (children c (Vhd two)) == 1)
    (ap (parent_is (Vhd two)) is ∙ ap (λ o. elim o [ None ↦ false | Some q ↦ same_image q (Vhd two) ]) none))

pub link_renamed : (area : ℕ → List ℕ) (j : Link) → (outline (content.renamed_beside area)).links (Vhd three) ≡ Some j → j.parent ≡ Some (Vhd two)
    → entry_link_fault (outline (content.renamed_beside area)) ≡ Some (at.Journal table.leaf)
unfolding entry_link_fault first_name is_entry_linked same_image row_of name_eq
link_renamed area j js back =
    let c = outline (content.renamed_beside area) in
    link_here _ table.leaf (shown_row table.leaf) refl
    (some_length (children c (Vhd two)) (shown_row (Vhd three)) (child-In c (shown_row (Vhd three)) (Vhd two) j (inr (inr (inl refl))) js back refl))

pub link_swapped : (area : ℕ → List ℕ) (j : Link) → (outline (content.swapped_beside area)).links (Vhd three) ≡ Some j → j.parent ≡ Some (Vhd one)
    → entry_link_fault (outline (content.swapped_beside area)) ≡ Some (at.Journal table.leaf)
unfolding entry_link_fault first_name is_entry_linked same_image row_of name_eq
link_swapped area j js back =
    let c = outline (content.swapped_beside area) in
    link_here _ table.leaf (shown_row table.leaf) refl
    (some_length (children c (Vhd one)) (shown_row (Vhd three)) (child-In c (shown_row (Vhd three)) (Vhd one) j (inr (inr (inl refl))) js back refl))

pub link_elsewhere : (area : ℕ → List ℕ) (i : Link) → (outline (content.fork_filled area)).links (Vhd one) ≡ Some i → i.parent ≡ None
    → entry_link_fault (outline (content.fork_filled area)) ≡ Some (at.Journal table.fork)
unfolding entry_link_fault first_name is_entry_linked row_of name_eq
link_elsewhere area i is none =
    let c = outline (content.fork_filled area) in
    link_here _ table.fork (shown_row table.fork) refl
    (and_left (is_base_of three (c.links (Vhd one))) _
    (ap (is_base_of three) is ∙ ap (λ o. elim o [ None ↦ false | Some q ↦ has_uuid three q ]) none))

pub link_fork_other : (area : ℕ → List ℕ) (j : Link) → (outline (content.fork_beside area)).links (Vhd four) ≡ Some j → j.parent ≡ Some (Vhd three)
    → entry_link_fault (outline (content.fork_beside area)) ≡ Some (at.Journal table.fork)
unfolding entry_link_fault first_name is_entry_linked same_image row_of name_eq
link_fork_other area j js back =
    let c = outline (content.fork_beside area) in
    link_here _ table.fork (shown_row table.fork) refl
    (and_third (is_base_of three (c.links (Vhd one))) (is_base_of three (c.links (Vhd two))) _
    (some_length _ (shown_row (Vhd four))
    (filter-In (λ r. not (same_image r.name (Vhd one) || same_image r.name (Vhd two))) (children_with c three) (shown_row (Vhd four))
    (In-left (shown_row (Vhd four)) (children c (Vhd three)) (children c (Raw three)) (child-In c (shown_row (Vhd four)) (Vhd three) j (inr (inl refl)) js back refl)) refl)))

-- ---- and contents that pass

none_left : {A : Type 0} (test : A → Bool) (xs : List A) → ((x : A) → In x xs → test x ≡ false) → filter test xs ≡ []
none_left test [] fails = refl
none_left test (x ∷ xs) fails = ap (λ b. cond b (x ∷ filter test xs) (filter test xs)) (fails x (inl refl)) ∙ none_left test xs (λ y h. fails y (inr h))

-- the parent of an image, as a test sees it
parent-seen : (c : Outline) (n p : Name) (i : Link) (o : Option Name) → c.links n ≡ Some i → i.parent ≡ o → parent_is p (c.links n) ≡ elim o [ None ↦ false | Some q ↦ same_image q p ]
parent-seen c n p i o is parent = ap (parent_is p) is ∙ ap (λ q. elim q [ None ↦ false | Some m ↦ same_image m p ]) parent

pub tree_right : (area : ℕ → List ℕ) (i j : Link) → (outline (content.child_and_parent area)).links (Vhd one) ≡ Some i → i.parent ≡ Some (Vhd two)
    → (outline (content.child_and_parent area)).links (Vhd two) ≡ Some j → j.parent ≡ None → j.size ≤ i.size → tree_fault (outline (content.child_and_parent area)) ≡ None
unfolding tree_fault first_name row_of name_eq same_image children
tree_right area i j is up js top fits =
    let c = outline (content.child_and_parent area) in
    let childless : children c (Vhd one) ≡ [] = none_left (λ r. parent_is (Vhd one) (c.links r.name)) c.table.volumes (unseen c) in
    let first_passes : is_tree_wrong c (shown_row (Vhd one)) ≡ false =
    wrong_at c one (shown_row (Vhd one)) i refl is
    ∙ all_hold (is_linked c i) (nat_le (chain_length c 31 (Vhd one)) 30) (length (children c (Vhd one)) == 0)
    (linked_at c i (Vhd two) up ∙ ap (is_no_larger i.size) js ∙ le-leb j.size i.size fits)
    (ap (λ k. nat_le k 30) (length_up c 30 (Vhd one) (Vhd two) i is up
    ∙ ap suc (length_top c 29 (Vhd two) j js top)))
    (ap (λ (rs : List Row). length rs == 0) childless) in
    let second_passes : is_tree_wrong c (hidden_row (Vhd two)) ≡ false =
    wrong_at c two (hidden_row (Vhd two)) j refl js
    ∙ all_hold (is_linked c j) (nat_le (chain_length c 31 (Vhd two)) 30) true
    (ap (λ o. elim o [ None ↦ true | Some q ↦ is_parent_right c j.size q ]) top)
    (ap (λ k. nat_le k 30) (length_top c 30 (Vhd two) j js top)) refl in
    ap₂ (λ a d. placed at.Tree (name_in (cond a (Some (shown_row (Vhd one))) (cond d (Some (hidden_row (Vhd two))) None)))) first_passes second_passes
  where
    unseen : (c : Outline) (r : Row) → In r (shown_row (Vhd one) ∷ hidden_row (Vhd two) ∷ []) → parent_is (Vhd one) ((outline (content.child_and_parent area)).links r.name) ≡ false
    unseen c r (inl at) = ap (λ (q : Row). parent_is (Vhd one) ((outline (content.child_and_parent area)).links q.name)) at
        ∙ parent-seen (outline (content.child_and_parent area)) (Vhd one) (Vhd one) i (Some (Vhd two)) is up
    unseen c r (inr (inl at)) = ap (λ (q : Row). parent_is (Vhd one) ((outline (content.child_and_parent area)).links q.name)) at
        ∙ parent-seen (outline (content.child_and_parent area)) (Vhd two) (Vhd one) j None js top
    unseen c r (inr (inr none)) = elim none [ ]

pub link_fork_alone : (area : ℕ → List ℕ) (i : Link) → (outline (content.fork_alone area)).links (Vhd three) ≡ Some i → i.parent ≡ None → entry_link_fault (outline (content.fork_alone area)) ≡ None
unfolding entry_link_fault first_name is_entry_linked same_image row_of name_eq image_of children
link_fork_alone area i is top =
    let c = outline (content.fork_alone area) in
    let seen : (p : Name) → parent_is p (c.links (Vhd three)) ≡ false = λ p. parent-seen c (Vhd three) p i None is top in
    ap₂ (λ a d. placed at.Journal (name_in (cond (not (length (filter (λ r. not (same_image r.name (Vhd one) || same_image r.name (Vhd two)))
    (cond a (shown_row (Vhd three) ∷ []) [] ++ cond d (shown_row (Vhd three) ∷ []) [])) == 0)) (Some (shown_row table.fork)) None)))
    (seen (Vhd three)) (seen (Raw three))

pub link_renamed_alone : (area : ℕ → List ℕ) (i : Link) → (outline (content.renamed_alone area)).links (Vhd two) ≡ Some i → i.parent ≡ None → entry_link_fault (outline (content.renamed_alone area)) ≡ None
unfolding entry_link_fault first_name is_entry_linked same_image row_of name_eq image_of children
link_renamed_alone area i is top =
    let c = outline (content.renamed_alone area) in
    ap (λ a. placed at.Journal (name_in (cond (not (length (cond a (hidden_row (Vhd two) ∷ []) []) == 0)) (Some (shown_row table.leaf)) None)))
    (parent-seen c (Vhd two) (Vhd two) i None is top)

pub link_copied : (area : ℕ → List ℕ) (i j : Link) → (outline (content.copied_alone area)).links (Vhd two) ≡ Some i → i.parent ≡ Some (Vhd three)
    → (outline (content.copied_alone area)).links (Vhd three) ≡ Some j → j.parent ≡ None → entry_link_fault (outline (content.copied_alone area)) ≡ None
unfolding entry_link_fault first_name is_entry_linked same_image row_of name_eq image_of children
link_copied area i j is up js top =
    let c = outline (content.copied_alone area) in
    let over : has_parent_of c two three (λ v p. true) ≡ true =
    ap (of_image (λ v. has_such_parent c three (λ p. true) v.parent)) is ∙ ap (has_such_parent c three (λ p. true)) up ∙ ap (of_image (λ p. true)) js in
    let low : (p : Name) → parent_is p (c.links (Vhd three)) ≡ false = λ p. parent-seen c (Vhd three) p j None js top in
    let plain : children_with c three ≡ hidden_row (Vhd two) ∷ [] =
    ap₂ (λ a d. cond a (hidden_row (Vhd two) ∷ cond d (hidden_row (Vhd three) ∷ []) []) (cond d (hidden_row (Vhd three) ∷ []) [])
    ++ cond (parent_is (Raw three) (c.links (Vhd two))) (hidden_row (Vhd two) ∷ cond (parent_is (Raw three) (c.links (Vhd three))) (hidden_row (Vhd three) ∷ []) [])
    (cond (parent_is (Raw three) (c.links (Vhd three))) (hidden_row (Vhd three) ∷ []) []))
    (parent-seen c (Vhd two) (Vhd three) i (Some (Vhd three)) is up) (low (Vhd three))
    ∙ ap₂ (λ a d. hidden_row (Vhd two) ∷ (cond a (hidden_row (Vhd two) ∷ cond d (hidden_row (Vhd three) ∷ []) []) (cond d (hidden_row (Vhd three) ∷ []) [])))
    (parent-seen c (Vhd two) (Raw three) i (Some (Vhd three)) is up) (low (Raw three)) in
    ap₂ (λ a (rs : List Row). placed at.Journal (name_in (cond (not (a && (length rs == 1))) (Some (shown_row table.coalesce)) None))) over plain

-- ---- records

found_here : (test : ℕ → Bool) (a : ℕ) (rest : Option ℕ) → test a ≡ true → cond (test a) (Some a) rest ≡ Some a
found_here test a rest h = ap (λ b. cond b (Some a) rest) h

found_later : (test : ℕ → Bool) (a : ℕ) (rest : Option ℕ) → test a ≡ false → cond (test a) (Some a) rest ≡ rest
found_later test a rest h = ap (λ b. cond b (Some a) rest) h

found_step : (test : ℕ → Bool) (a n k : ℕ) → (a < k) ⊎ (k ≤ a) → a ≤ k → test k ≡ true → ((j : ℕ) → a ≤ j → j < k → test j ≡ false)
    → (a < k → find test (numbers (a + 1) n) ≡ Some k) → cond (test a) (Some a) (find test (numbers (a + 1) n)) ≡ Some k
found_step test a n k (inl before) from passes fails rest = found_later test a (find test (numbers (a + 1) n)) (fails a (omega arith) before) ∙ rest before
found_step test a n k (inr here) from passes fails rest =
    let at : a ≡ k = omega (arith, from, here) in
    found_here test a (find test (numbers (a + 1) n)) (ap test at ∙ passes) ∙ ap Some at

find_number : (test : ℕ → Bool) (a n k : ℕ) → a ≤ k → k < a + n → test k ≡ true → ((j : ℕ) → a ≤ j → j < k → test j ≡ false) → find test (numbers a n) ≡ Some k
unfolding numbers
find_number test a zero k from below passes fails = absurd (omega (arith, from, below))
find_number test a (suc n) k from below passes fails =
    found_step test a n k (cases_lt a k) from passes fails
    (λ before. find_number test (a + 1) n k (omega arith) (omega arith) passes (λ j lo hi. fails j (omega arith) hi))

pub record_first : (c : Content) (k : ℕ) → k < record_count → is_damaged (reading_at c k) ≡ true → ((j : ℕ) → j < k → is_damaged (reading_at c j) ≡ false)
    → record_fault (outline c) ≡ Some (at.Record k)
unfolding record_fault
record_first c k below damaged right =
    ap record_place (find_number (λ j. is_damaged (reading_in c j)) 0 record_count k (omega arith) (omega (arith, below))
    (ap is_damaged (reading_within c k below) ∙ damaged)
    (λ j lo hi. ap is_damaged (reading_within c j (omega arith)) ∙ right j hi))

pub record_none : (c : Content) → ((j : ℕ) → j < record_count → is_damaged (reading_at c j) ≡ false) → record_fault (outline c) ≡ None
unfolding record_fault
record_none c right = ap record_place (find_none (λ j. is_damaged (reading_in c j)) (numbers 0 record_count) (λ k h.
    let below = (In-numbers 0 record_count k h).1 in ap is_damaged (reading_within c k below) ∙ right k below))

abbrev damaged_content : Content
damaged_content = content_on (sized_row false Mgt (0 ∷ []) ∷ []) (λ p. 1 ∷ replicate 511 0)

damaged_there : is_damaged (reading_at damaged_content 0) ≡ true
unfolding sectors_of piece reading record_in
damaged_there = refl

pub record_all : record_fault (outline damaged_content) ≡ Some (at.Record 0)
record_all = record_first damaged_content 0 (omega arith) damaged_there (λ j low. absurd (omega (arith, low)))

-- ---- disks

disk_at_one : (area : ℕ → List ℕ) (rs : List Record) → filter (is_record_of one) (records (content_on (shown_row (Raw one) ∷ []) area)) ≡ rs
    → disk_fault (outline (content_on (shown_row (Raw one) ∷ []) area)) ≡ disk_place (cond (not (length rs == 1)) (Some one) None)
unfolding disk_fault uuids in_order with_uuid standing_volume image_with row_of name_eq
disk_at_one area rs is = ap (λ (qs : List Record). disk_place (cond (not (length qs == 1)) (Some one) None))
    (ap (filter (is_record_of one)) (outline_records_same (content_on (shown_row (Raw one) ∷ []) area)) ∙ is)

pub disk_none : (area : ℕ → List ℕ) → filter (is_record_of one) (records (content_on (shown_row (Raw one) ∷ []) area)) ≡ []
    → disk_fault (outline (content_on (shown_row (Raw one) ∷ []) area)) ≡ Some (at.Disk one)
disk_none area is = disk_at_one area [] is

pub disk_two : (area : ℕ → List ℕ) (r s : Record) → filter (is_record_of one) (records (content_on (shown_row (Raw one) ∷ []) area)) ≡ r ∷ s ∷ []
    → disk_fault (outline (content_on (shown_row (Raw one) ∷ []) area)) ≡ Some (at.Disk one)
disk_two area r s is = disk_at_one area (r ∷ s ∷ []) is

pub disk_once : (area : ℕ → List ℕ) (r : Record) → filter (is_record_of one) (records (content_on (shown_row (Raw one) ∷ []) area)) ≡ r ∷ []
    → disk_fault (outline (content_on (shown_row (Raw one) ∷ []) area)) ≡ None
disk_once area r is = disk_at_one area (r ∷ []) is

pub disk_first : (area : ℕ → List ℕ) → filter (is_record_of one) (records (content_on (shown_row (Vhd two) ∷ shown_row (Raw one) ∷ []) area)) ≡ []
    → disk_fault (outline (content_on (shown_row (Vhd two) ∷ shown_row (Raw one) ∷ []) area)) ≡ Some (at.Disk one)
unfolding disk_fault uuids in_order with_uuid standing_volume image_with row_of name_eq
disk_first area is =
    ap (λ (qs : List Record). disk_place (cond (not (length qs == 1)) (Some one)
    (find (is_unrecorded (outline (content_on (shown_row (Vhd two) ∷ shown_row (Raw one) ∷ []) area))) (two ∷ []))))
    (ap (filter (is_record_of one)) (outline_records_same (content_on (shown_row (Vhd two) ∷ shown_row (Raw one) ∷ []) area)) ∙ is)

abbrev bare_content : Content
bare_content = content_on (shown_row (Raw one) ∷ []) (λ p. zeros)

bare_free : (k : ℕ) → reading_at bare_content k ≡ Free
unfolding sectors_of zeros piece
bare_free k = reading_zeros 512

bare_records : filter (is_record_of one) (records bare_content) ≡ []
unfolding records
bare_records = filter_none (is_record_of one) (λ k. taken (reading_at bare_content k)) (numbers 0 record_count)
    (λ k r h is. let e = sym (ap taken (bare_free k)) ∙ is in absurd (let x = e in cc))

pub disk_unrecorded : disk_fault (outline bare_content) ≡ Some (at.Disk one)
disk_unrecorded = disk_none (λ p. zeros) bare_records
