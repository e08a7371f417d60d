-- `==` of two names, and of two UUIDs, says whether they are equal.
use Rattle.std.proofs.Common.{◌≡◌, ◌≢◌, ℕ, true, false, ◌&&◌, nat_eq, List, refl, sym, ap, subst, ◌∙◌, rules}
use Rattle.std.specs.Cmp.{IsEquivalence}
use Rattle.std.proofs.lemmas.Bool.{and_parts, eqb-true, false_from_ne_true, false≢true}
use Rattle.sm_base.specs.declared.names.Name.{Name}
use Rattle.sm_base.specs.declared.names.Name.TheVariants.{Mgt, Vhd, Raw, Old, Cbt, Clone, Inflate, Coalesce, Relink, Leaf}
use Rattle.sm_base.specs.contracts.names.NameEq.TheImpl.Laws.{laws-law}
use Rattle.uuid.specs.contracts.UuidEq.TheImpl.Laws.{laws-law as uuid_laws}
use Rattle.sm_refs.specs.Attached.{same_name, same_uuid}

pub uuid_from_same : (u v : List ℕ) → same_uuid u v ≡ true → u ≡ v
unfolding same_uuid
uuid_from_same u v h = search rules

pub same_uuid-refl : (u : List ℕ) → same_uuid u u ≡ true
unfolding same_uuid
same_uuid-refl u = uuid_laws.refl u

two : (f : List ℕ → List ℕ → Name) (u v u' v' : List ℕ) → (same_uuid u u' && same_uuid v v') ≡ true → f u v ≡ f u' v'
two f u v u' v' h =
    let both = and_parts (same_uuid u u') (same_uuid v v') h in
    let a : u ≡ u' = uuid_from_same u u' both.0 in
    let b : v ≡ v' = uuid_from_same v v' both.1 in
    cc

three : (u v w u' v' w' : List ℕ) → (same_uuid u u' && (same_uuid v v' && same_uuid w w')) ≡ true → Clone u v w ≡ Clone u' v' w'
three u v w u' v' w' h =
    let all = and_parts (same_uuid u u') (same_uuid v v' && same_uuid w w') h in
    let rest = and_parts (same_uuid v v') (same_uuid w w') all.1 in
    let a : u ≡ u' = uuid_from_same u u' all.0 in
    let b : v ≡ v' = uuid_from_same v v' rest.0 in
    let c : w ≡ w' = uuid_from_same w w' rest.1 in
    cc

enlarged : (u u' : List ℕ) (n n' : ℕ) → (same_uuid u u' && nat_eq n n') ≡ true → Inflate u n ≡ Inflate u' n'
enlarged u u' n n' h =
    let both = and_parts (same_uuid u u') (nat_eq n n') h in
    let a : u ≡ u' = uuid_from_same u u' both.0 in
    let b : n ≡ n' = eqb-true n n' both.1 in
    cc

pub name_from_same : (a b : Name) → same_name a b ≡ true → a ≡ b
unfolding same_name same_uuid
name_from_same Mgt Mgt h = refl
name_from_same (Vhd u) (Vhd v) h = ap Vhd (uuid_from_same u v h)
name_from_same (Raw u) (Raw v) h = ap Raw (uuid_from_same u v h)
name_from_same (Old u) (Old v) h = ap Old (uuid_from_same u v h)
name_from_same (Cbt u) (Cbt v) h = ap Cbt (uuid_from_same u v h)
name_from_same (Clone u v w) (Clone u' v' w') h = three u v w u' v' w' h
name_from_same (Inflate u n) (Inflate u' n') h = enlarged u u' n n' h
name_from_same (Coalesce u v) (Coalesce u' v') h = two Coalesce u v u' v' h
name_from_same (Relink u v) (Relink u' v') h = two Relink u v u' v' h
name_from_same (Leaf u v) (Leaf u' v') h = two Leaf u v u' v' h
name_from_same a b h = absurd (false≢true h)

pub same_name_laws : IsEquivalence same_name
unfolding same_name
same_name_laws = laws-law

pub same_name-refl : (a : Name) → same_name a a ≡ true
same_name-refl a = same_name_laws.refl a

pub other_name : (a b : Name) → (a ≡ b → ⊥) → same_name a b ≡ false
other_name a b ne = false_from_ne_true (same_name a b) (λ h. ne (name_from_same a b h))

pub apart_from_other : (a b : Name) → same_name a b ≡ false → b ≢ a
apart_from_other a b other = λ same. false≢true (sym other ∙ subst (λ m. same_name a m ≡ true) (sym same) (same_name-refl a))
