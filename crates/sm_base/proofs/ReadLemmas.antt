-- What stands where in the spelling of a name.
use Rattle.std.proofs.Common.{◌≡◌, ℕ, ◌+◌, ◌<◌, ◌^◌, List, ◌++◌, true, false, true≢false, IsTrue, ◌≢◌, length, length-append, append_assoc, take, drop, nat_eq, codes, decimal, arith, refl, sym, ap, ◌∙◌}
use Rattle.std.proofs.lemmas.List.{take_at, drop_at, take_all}
use Rattle.std.specs.List.{starts_with}
use Rattle.std.proofs.Common.{ap₂}
use Rattle.std.proofs.lemmas.Fmt.{decimal_injective}
use Rattle.sm_base.specs.declared.names.Name.{Name}
use Rattle.sm_base.specs.declared.names.Name.TheVariants.{Mgt, Vhd, Raw, Old, Cbt, Clone, Inflate, Coalesce, Relink, Leaf}
use Rattle.sm_base.specs.Kinds.{is_entry}
use Rattle.sm_base.specs.Names.{IsUuid, uuid_text, spelling, IsName}
use Rattle.sm_base.proofs.TextLemmas.{length-uuid_text, uuid_text-injective}

-- a UUID behind a text
last_at : (front u : List ℕ) (n : ℕ) → length front ≡ n → take 36 (drop n (front ++ uuid_text u)) ≡ uuid_text u
last_at front u n long = ap (take 36) (drop_at front (uuid_text u) n long) ∙ take_all 36 (uuid_text u) (omega (arith, length-uuid_text u))

first_at : (front u rest : List ℕ) (n : ℕ) → length front ≡ n → take 36 (drop n (front ++ (uuid_text u ++ rest))) ≡ uuid_text u
first_at front u rest n long =
    ap (take 36) (drop_at front (uuid_text u ++ rest) n long) ∙ take_at (uuid_text u) rest 36 (length-uuid_text u)

-- the front of a second part
joined : List ℕ → List ℕ → List ℕ
joined front u = front ++ (uuid_text u ++ codes "_")

joined_is : (front u rest : List ℕ) → joined front u ++ rest ≡ front ++ (uuid_text u ++ (codes "_" ++ rest))
unfolding joined
joined_is front u rest = append_assoc front (uuid_text u ++ codes "_") rest ∙ ap (λ t. front ++ t) (append_assoc (uuid_text u) (codes "_") rest)

length-joined : (front u : List ℕ) → length (joined front u) ≡ length front + 37
unfolding joined
length-joined front u =
    omega (arith, length-append front (uuid_text u ++ codes "_"), length-append (uuid_text u) (codes "_"), length-uuid_text u)

second_last_at : (front u v : List ℕ) (n : ℕ) → length front + 37 ≡ n
    → take 36 (drop n (front ++ (uuid_text u ++ (codes "_" ++ uuid_text v)))) ≡ uuid_text v
second_last_at front u v n long =
    ap (λ t. take 36 (drop n t)) (sym (joined_is front u (uuid_text v))) ∙ last_at (joined front u) v n (length-joined front u ∙ long)

second_at : (front u v rest : List ℕ) (n : ℕ) → length front + 37 ≡ n
    → take 36 (drop n (front ++ (uuid_text u ++ (codes "_" ++ (uuid_text v ++ rest))))) ≡ uuid_text v
second_at front u v rest n long =
    ap (λ t. take 36 (drop n t)) (sym (joined_is front u (uuid_text v ++ rest))) ∙ first_at (joined front u) v rest n (length-joined front u ∙ long)

third_at : (front u v w : List ℕ) (n : ℕ) → length front + 74 ≡ n
    → take 36 (drop n (front ++ (uuid_text u ++ (codes "_" ++ (uuid_text v ++ (codes "_" ++ uuid_text w)))))) ≡ uuid_text w
third_at front u v w n long =
    ap (λ t. take 36 (drop n t)) (sym (joined_is front u (uuid_text v ++ (codes "_" ++ uuid_text w))))
    ∙ second_last_at (joined front u) v w n (omega (arith, length-joined front u))

number_at : (front u digits : List ℕ) (n : ℕ) → length front + 37 ≡ n → drop n (front ++ (uuid_text u ++ (codes "_" ++ digits))) ≡ digits
number_at front u digits n long =
    ap (drop n) (sym (joined_is front u digits)) ∙ drop_at (joined front u) digits n (length-joined front u ∙ long)

-- a name of one UUID, whose text stands at a place
pub record One (make : List ℕ → Name) (at : ℕ) (bytes : List ℕ) (n : Name) : Type 0 where
  pub uuid : List ℕ
  pub same : n ≡ make uuid
  pub is : IsUuid uuid
  pub text : take 36 (drop at bytes) ≡ uuid_text uuid

-- a name of two UUIDs, whose texts stand at two places
pub record Two (make : List ℕ → List ℕ → Name) (at behind : ℕ) (bytes : List ℕ) (n : Name) : Type 0 where
  pub first : List ℕ
  pub second : List ℕ
  pub same : n ≡ make first second
  pub is_first : IsUuid first
  pub is_second : IsUuid second
  pub first_text : take 36 (drop at bytes) ≡ uuid_text first
  pub second_text : take 36 (drop behind bytes) ≡ uuid_text second

pub record Three (bytes : List ℕ) (n : Name) : Type 0 where
  pub disk : List ℕ
  pub base : List ℕ
  pub twin : List ℕ
  pub same : n ≡ Clone disk base twin
  pub is_disk : IsUuid disk
  pub is_base : IsUuid base
  pub is_twin : IsUuid twin
  pub disk_text : take 36 (drop 6 bytes) ≡ uuid_text disk
  pub base_text : take 36 (drop 43 bytes) ≡ uuid_text base
  pub twin_text : take 36 (drop 80 bytes) ≡ uuid_text twin

pub record Enlarged (bytes : List ℕ) (n : Name) : Type 0 where
  pub image : List ℕ
  pub extents : ℕ
  pub same : n ≡ Inflate image extents
  pub is_image : IsUuid image
  pub some : 0 < extents
  pub fits : extents < 2 ^ 32
  pub image_text : take 36 (drop 8 bytes) ≡ uuid_text image
  pub number_text : drop 45 bytes ≡ decimal extents

-- the bytes at a place, where the bytes are a spelling
along : (at : ℕ) (bytes text part : List ℕ) → text ≡ bytes → take 36 (drop at text) ≡ part → take 36 (drop at bytes) ≡ part
along at bytes text part e found = ap (λ t. take 36 (drop at t)) (sym e) ∙ found

-- a front that the spelling does not have
other : (front bytes text : List ℕ) (P : Type 0) → true ≡ starts_with nat_eq bytes front → text ≡ bytes → starts_with nat_eq text front ≡ false → P
other front bytes text P start e none =
    absurd (true≢false (start ∙ ap (λ t. starts_with nat_eq t front) (sym e) ∙ none))

pub vhd_parts : (bytes : List ℕ) → true ≡ starts_with nat_eq bytes (codes "VHD-") → (n : Name) → IsName n → spelling n ≡ bytes → One Vhd 4 bytes n
unfolding spelling IsName
vhd_parts bytes start (Vhd u) is e = record {
  uuid = u;
  same = refl;
  is = is;
  text = along 4 bytes (spelling (Vhd u)) (uuid_text u) e (last_at (codes "VHD-") u 4 refl);
}
vhd_parts bytes start n is e = other (codes "VHD-") bytes (spelling n) (One Vhd 4 bytes n) start e refl

pub raw_parts : (bytes : List ℕ) → true ≡ starts_with nat_eq bytes (codes "LV-") → (n : Name) → IsName n → spelling n ≡ bytes → One Raw 3 bytes n
unfolding spelling IsName
raw_parts bytes start (Raw u) is e = record {
  uuid = u;
  same = refl;
  is = is;
  text = along 3 bytes (spelling (Raw u)) (uuid_text u) e (last_at (codes "LV-") u 3 refl);
}
raw_parts bytes start n is e = other (codes "LV-") bytes (spelling n) (One Raw 3 bytes n) start e refl

pub old_parts : (bytes : List ℕ) → true ≡ starts_with nat_eq bytes (codes "OLD_") → (n : Name) → IsName n → spelling n ≡ bytes → One Old 4 bytes n
unfolding spelling IsName
old_parts bytes start (Old u) is e = record {
  uuid = u;
  same = refl;
  is = is;
  text = along 4 bytes (spelling (Old u)) (uuid_text u) e (last_at (codes "OLD_") u 4 refl);
}
old_parts bytes start n is e = other (codes "OLD_") bytes (spelling n) (One Old 4 bytes n) start e refl

pub cbt_parts : (bytes : List ℕ) → true ≡ starts_with nat_eq bytes (codes "CBT-") → (n : Name) → IsName n → spelling n ≡ bytes → One Cbt 4 bytes n
unfolding spelling IsName
cbt_parts bytes start (Cbt u) is e = record {
  uuid = u;
  same = refl;
  is = is;
  text = along 4 bytes (spelling (Cbt u)) (uuid_text u) e (last_at (codes "CBT-") u 4 refl);
}
cbt_parts bytes start n is e = other (codes "CBT-") bytes (spelling n) (One Cbt 4 bytes n) start e refl

pub clone_parts : (bytes : List ℕ) → true ≡ starts_with nat_eq bytes (codes "clone_") → (n : Name) → IsName n → spelling n ≡ bytes → Three bytes n
unfolding spelling IsName
clone_parts bytes start (Clone disk base twin) is e =
    let text = spelling (Clone disk base twin) in
    record {
      disk = disk;
      base = base;
      twin = twin;
      same = refl;
      is_disk = is.0;
      is_base = is.1;
      is_twin = is.2;
      disk_text = along 6 bytes text (uuid_text disk) e (first_at (codes "clone_") disk (codes "_" ++ (uuid_text base ++ (codes "_" ++ uuid_text twin))) 6 refl);
      base_text = along 43 bytes text (uuid_text base) e (second_at (codes "clone_") disk base (codes "_" ++ uuid_text twin) 43 refl);
      twin_text = along 80 bytes text (uuid_text twin) e (third_at (codes "clone_") disk base twin 80 refl);
    }
clone_parts bytes start n is e = other (codes "clone_") bytes (spelling n) (Three bytes n) start e refl

pub inflate_parts : (bytes : List ℕ) → true ≡ starts_with nat_eq bytes (codes "inflate_") → (n : Name) → IsName n → spelling n ≡ bytes → Enlarged bytes n
unfolding spelling IsName
inflate_parts bytes start (Inflate image extents) is e = record {
  image = image;
  extents = extents;
  same = refl;
  is_image = is.0;
  some = is.1;
  fits = is.2;
  image_text = along 8 bytes (spelling (Inflate image extents)) (uuid_text image) e (first_at (codes "inflate_") image (codes "_" ++ decimal extents) 8 refl);
  number_text = ap (drop 45) (sym e) ∙ number_at (codes "inflate_") image (decimal extents) 45 refl;
}
inflate_parts bytes start n is e = other (codes "inflate_") bytes (spelling n) (Enlarged bytes n) start e refl

pub coalesce_parts : (bytes : List ℕ) → true ≡ starts_with nat_eq bytes (codes "coalesce_") → (n : Name) → IsName n → spelling n ≡ bytes → Two Coalesce 9 46 bytes n
unfolding spelling IsName
coalesce_parts bytes start (Coalesce u v) is e = record {
  first = u;
  second = v;
  same = refl;
  is_first = is.0;
  is_second = is.1;
  first_text = along 9 bytes (spelling (Coalesce u v)) (uuid_text u) e (first_at (codes "coalesce_") u (codes "_" ++ uuid_text v) 9 refl);
  second_text = along 46 bytes (spelling (Coalesce u v)) (uuid_text v) e (second_last_at (codes "coalesce_") u v 46 refl);
}
coalesce_parts bytes start n is e = other (codes "coalesce_") bytes (spelling n) (Two Coalesce 9 46 bytes n) start e refl

pub relink_parts : (bytes : List ℕ) → true ≡ starts_with nat_eq bytes (codes "relink_") → (n : Name) → IsName n → spelling n ≡ bytes → Two Relink 7 44 bytes n
unfolding spelling IsName
relink_parts bytes start (Relink u v) is e = record {
  first = u;
  second = v;
  same = refl;
  is_first = is.0;
  is_second = is.1;
  first_text = along 7 bytes (spelling (Relink u v)) (uuid_text u) e (first_at (codes "relink_") u (codes "_" ++ uuid_text v) 7 refl);
  second_text = along 44 bytes (spelling (Relink u v)) (uuid_text v) e (second_last_at (codes "relink_") u v 44 refl);
}
relink_parts bytes start n is e = other (codes "relink_") bytes (spelling n) (Two Relink 7 44 bytes n) start e refl

pub leaf_parts : (bytes : List ℕ) → true ≡ starts_with nat_eq bytes (codes "leaf_") → (n : Name) → IsName n → spelling n ≡ bytes → Two Leaf 5 42 bytes n
unfolding spelling IsName
leaf_parts bytes start (Leaf u v) is e = record {
  first = u;
  second = v;
  same = refl;
  is_first = is.0;
  is_second = is.1;
  first_text = along 5 bytes (spelling (Leaf u v)) (uuid_text u) e (first_at (codes "leaf_") u (codes "_" ++ uuid_text v) 5 refl);
  second_text = along 42 bytes (spelling (Leaf u v)) (uuid_text v) e (second_last_at (codes "leaf_") u v 42 refl);
}
leaf_parts bytes start n is e = other (codes "leaf_") bytes (spelling n) (Two Leaf 5 42 bytes n) start e refl

-- only MGT is spelled so
pub mgt_only : (bytes : List ℕ) → bytes ≡ codes "MGT" → (n : Name) → spelling n ≡ bytes → n ≡ Mgt
unfolding spelling
mgt_only bytes text Mgt e = refl
mgt_only bytes text n e =
    let start : true ≡ starts_with nat_eq bytes (codes "MGT") = ap (λ t. starts_with nat_eq t (codes "MGT")) (sym text) in
    other (codes "MGT") bytes (spelling n) (n ≡ Mgt) start e refl

-- a front that the spelling has
begun : (front bytes text : List ℕ) (P : Type 0) → false ≡ starts_with nat_eq bytes front → text ≡ bytes → starts_with nat_eq text front ≡ true → P
begun front bytes text P start e has =
    absurd (true≢false (sym has ∙ ap (λ t. starts_with nat_eq t front) e ∙ sym start))

-- where none of these fronts stands, the name is that of an entry
pub entry_only : (bytes : List ℕ) → bytes ≢ codes "MGT" → false ≡ starts_with nat_eq bytes (codes "VHD-") → false ≡ starts_with nat_eq bytes (codes "LV-")
    → false ≡ starts_with nat_eq bytes (codes "OLD_") → false ≡ starts_with nat_eq bytes (codes "CBT-") → (n : Name) → spelling n ≡ bytes → IsTrue (is_entry n)
unfolding spelling
entry_only bytes mgt vhd raw old cbt Mgt e = absurd (mgt (sym e))
entry_only bytes mgt vhd raw old cbt (Vhd u) e = begun (codes "VHD-") bytes (spelling (Vhd u)) _ vhd e refl
entry_only bytes mgt vhd raw old cbt (Raw u) e = begun (codes "LV-") bytes (spelling (Raw u)) _ raw e refl
entry_only bytes mgt vhd raw old cbt (Old u) e = begun (codes "OLD_") bytes (spelling (Old u)) _ old e refl
entry_only bytes mgt vhd raw old cbt (Cbt u) e = begun (codes "CBT-") bytes (spelling (Cbt u)) _ cbt e refl
entry_only bytes mgt vhd raw old cbt (Clone disk base twin) e = refl
entry_only bytes mgt vhd raw old cbt (Inflate image extents) e = refl
entry_only bytes mgt vhd raw old cbt (Coalesce child parent) e = refl
entry_only bytes mgt vhd raw old cbt (Relink child parent) e = refl
entry_only bytes mgt vhd raw old cbt (Leaf leaf parent) e = refl

-- where none of these fronts stands, the name is of no entry
pub no_entry : (bytes : List ℕ) → false ≡ starts_with nat_eq bytes (codes "clone_") → false ≡ starts_with nat_eq bytes (codes "inflate_")
    → false ≡ starts_with nat_eq bytes (codes "coalesce_") → false ≡ starts_with nat_eq bytes (codes "relink_")
    → false ≡ starts_with nat_eq bytes (codes "leaf_") → (n : Name) → IsTrue (is_entry n) → spelling n ≡ bytes → ⊥
unfolding spelling
no_entry bytes clone inflate coalesce relink leaf Mgt is e = cc
no_entry bytes clone inflate coalesce relink leaf (Vhd u) is e = cc
no_entry bytes clone inflate coalesce relink leaf (Raw u) is e = cc
no_entry bytes clone inflate coalesce relink leaf (Old u) is e = cc
no_entry bytes clone inflate coalesce relink leaf (Cbt u) is e = cc
no_entry bytes clone inflate coalesce relink leaf (Clone a b t) is e = begun (codes "clone_") bytes (spelling (Clone a b t)) ⊥ clone e refl
no_entry bytes clone inflate coalesce relink leaf (Inflate a b) is e = begun (codes "inflate_") bytes (spelling (Inflate a b)) ⊥ inflate e refl
no_entry bytes clone inflate coalesce relink leaf (Coalesce a b) is e = begun (codes "coalesce_") bytes (spelling (Coalesce a b)) ⊥ coalesce e refl
no_entry bytes clone inflate coalesce relink leaf (Relink a b) is e = begun (codes "relink_") bytes (spelling (Relink a b)) ⊥ relink e refl
no_entry bytes clone inflate coalesce relink leaf (Leaf a b) is e = begun (codes "leaf_") bytes (spelling (Leaf a b)) ⊥ leaf e refl

-- ---- a spelling is of one name

One-same : (make : List ℕ → Name) (at : ℕ) (bytes : List ℕ) (n m : Name) → One make at bytes n → One make at bytes m → n ≡ m
One-same make at bytes n m p q =
    p.same ∙ ap make (uuid_text-injective p.uuid q.uuid p.is q.is (sym p.text ∙ q.text)) ∙ sym q.same

Two-same : (make : List ℕ → List ℕ → Name) (at behind : ℕ) (bytes : List ℕ) (n m : Name)
    → Two make at behind bytes n → Two make at behind bytes m → n ≡ m
Two-same make at behind bytes n m p q =
    p.same ∙ ap₂ make (uuid_text-injective p.first q.first p.is_first q.is_first (sym p.first_text ∙ q.first_text))
    (uuid_text-injective p.second q.second p.is_second q.is_second (sym p.second_text ∙ q.second_text)) ∙ sym q.same

Three-same : (bytes : List ℕ) (n m : Name) → Three bytes n → Three bytes m → n ≡ m
Three-same bytes n m p q =
    let disk = uuid_text-injective p.disk q.disk p.is_disk q.is_disk (sym p.disk_text ∙ q.disk_text) in
    let base = uuid_text-injective p.base q.base p.is_base q.is_base (sym p.base_text ∙ q.base_text) in
    let twin = uuid_text-injective p.twin q.twin p.is_twin q.is_twin (sym p.twin_text ∙ q.twin_text) in
    p.same ∙ ap (λ u. Clone u p.base p.twin) disk ∙ ap (λ u. Clone q.disk u p.twin) base ∙ ap (Clone q.disk q.base) twin ∙ sym q.same

Enlarged-same : (bytes : List ℕ) (n m : Name) → Enlarged bytes n → Enlarged bytes m → n ≡ m
Enlarged-same bytes n m p q =
    let image = uuid_text-injective p.image q.image p.is_image q.is_image (sym p.image_text ∙ q.image_text) in
    let extents = decimal_injective p.extents q.extents (omega (arith, p.fits)) (omega (arith, q.fits)) (sym p.number_text ∙ q.number_text) in
    p.same ∙ ap₂ Inflate image extents ∙ sym q.same

-- proper names with one spelling are one
pub spelling-injective : (n m : Name) → IsName n → IsName m → spelling n ≡ spelling m → n ≡ m
unfolding spelling
spelling-injective Mgt m is_n is_m e = sym (mgt_only (codes "MGT") refl m (sym e))
spelling-injective (Vhd u) m is_n is_m e =
    One-same Vhd 4 (spelling (Vhd u)) (Vhd u) m (vhd_parts (spelling (Vhd u)) refl (Vhd u) is_n refl) (vhd_parts (spelling (Vhd u)) refl m is_m (sym e))
spelling-injective (Raw u) m is_n is_m e =
    One-same Raw 3 (spelling (Raw u)) (Raw u) m (raw_parts (spelling (Raw u)) refl (Raw u) is_n refl) (raw_parts (spelling (Raw u)) refl m is_m (sym e))
spelling-injective (Old u) m is_n is_m e =
    One-same Old 4 (spelling (Old u)) (Old u) m (old_parts (spelling (Old u)) refl (Old u) is_n refl) (old_parts (spelling (Old u)) refl m is_m (sym e))
spelling-injective (Cbt u) m is_n is_m e =
    One-same Cbt 4 (spelling (Cbt u)) (Cbt u) m (cbt_parts (spelling (Cbt u)) refl (Cbt u) is_n refl) (cbt_parts (spelling (Cbt u)) refl m is_m (sym e))
spelling-injective (Clone a b t) m is_n is_m e =
    let text = spelling (Clone a b t) in
    Three-same text (Clone a b t) m (clone_parts text refl (Clone a b t) is_n refl) (clone_parts text refl m is_m (sym e))
spelling-injective (Inflate a b) m is_n is_m e =
    let text = spelling (Inflate a b) in
    Enlarged-same text (Inflate a b) m (inflate_parts text refl (Inflate a b) is_n refl) (inflate_parts text refl m is_m (sym e))
spelling-injective (Coalesce a b) m is_n is_m e =
    let text = spelling (Coalesce a b) in
    Two-same Coalesce 9 46 text (Coalesce a b) m (coalesce_parts text refl (Coalesce a b) is_n refl) (coalesce_parts text refl m is_m (sym e))
spelling-injective (Relink a b) m is_n is_m e =
    let text = spelling (Relink a b) in
    Two-same Relink 7 44 text (Relink a b) m (relink_parts text refl (Relink a b) is_n refl) (relink_parts text refl m is_m (sym e))
spelling-injective (Leaf a b) m is_n is_m e =
    let text = spelling (Leaf a b) in
    Two-same Leaf 5 42 text (Leaf a b) m (leaf_parts text refl (Leaf a b) is_n refl) (leaf_parts text refl m is_m (sym e))
