-- The order of names.
use Rattle.std.proofs.Common.{◌≡◌, ap, ◌∙◌}
use Rattle.std.specs.Cmp.{IsTotalOrder}
use Rattle.std.specs.Cmp.Lexicographic.{on_texts, texts_ties}
use Rattle.std.specs.Ordering.{is_eq}
use Rattle.std.specs.declared.cmp.Ordering.TheVariants.{Equal}
use Rattle.std.proofs.lemmas.Cmp.{tied_itself}
use Rattle.std.proofs.lemmas.Slice.Eq.{bytes_eq-Decides}
use Rattle.sm_base.specs.declared.names.Name.{Name}
use Rattle.sm_base.specs.Names.{IsName, spelling, name_cmp}
use Rattle.sm_base.proofs.ReadLemmas.{spelling-injective}

-- the order is antisymmetric, transitive and total
pub name_cmp_total : IsTotalOrder name_cmp
unfolding name_cmp
name_cmp_total = on_texts spelling

pub name_cmp-itself : (n : Name) → name_cmp n n ≡ Equal
name_cmp-itself n = tied_itself name_cmp_total n

-- names that the order does not tell apart have one spelling
pub same_spelling : (n m : Name) → name_cmp n m ≡ Equal → spelling n ≡ spelling m
unfolding name_cmp
same_spelling n m tied =
    (bytes_eq-Decides (spelling n) (spelling m)).0 (texts_ties (spelling n) (spelling m) ∙ ap is_eq tied)

-- and proper ones are one
pub name_cmp-same : (n m : Name) → IsName n → IsName m → name_cmp n m ≡ Equal → n ≡ m
name_cmp-same n m is_n is_m tied = spelling-injective n m is_n is_m (same_spelling n m tied)
