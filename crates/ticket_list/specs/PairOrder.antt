-- Pairs are in a total order.
use Rattle.std.specs.Prelude.{◌≡◌, ℕ, Bool, true, false}
use Rattle.std.proofs.Common.{sym, refl, ap, ap₂, ◌∙◌, arith}
use Rattle.std.specs.Cmp.{IsTotalOrder}
use Rattle.std.specs.declared.cmp.Ordering.TheVariants.{Equal}
use Rattle.std.specs.Ordering.{is_lt}
use Rattle.std.proofs.lemmas.Cmp.{tied_back, on_total, then_total, nat_cmp_total}
use Rattle.std.proofs.lemmas.Bool.Decides.{nat_tests}
use Rattle.ticket_list.specs.contracts.pairs.PairOrd.TheImpl as compared
use Rattle.ticket_list.specs.declared.pairs.Pair.{Pair}
use Rattle.ticket_list.specs.Pairs.{comes_before, pair_cmp}

-- a total order, as a test of which comes first
pub record Total {K : Type 0} (before : K → K → Bool) : Type 0 where
  pub irreflexive : (k : K) → before k k ≡ false
  pub transitive : (j k l : K) → before j k ≡ true → before k l ≡ true → before j l ≡ true
  pub total : (j k : K) → before j k ≡ false → before k j ≡ false → j ≡ k

comes_total : (p q : Pair) → comes_before p q ≡ false → comes_before q p ≡ false → p ≡ q
comes_total p q s t =
    let h : p.holder ≡ q.holder = grind (arith, nat_tests) in
    let y : p.target ≡ q.target = grind (arith, nat_tests) in
    ap₂ (λ (m n : ℕ). record { holder = m; target = n }) h y

pub pair_order : Total comes_before
pair_order = record {
  irreflexive = λ p. grind (arith, nat_tests);
  transitive = λ p q r s t. grind (arith, nat_tests);
  total = comes_total;
}

-- the same by how they compare
pub pair_total : IsTotalOrder pair_cmp
pair_total = then_total (on_total (λ (p : Pair). p.holder) nat_cmp_total) (on_total (λ (p : Pair). p.target) nat_cmp_total)

-- so does the code that is derived compare them
pub derived_so : (p q : Pair) → compared.cmp-value.it p q ≡ pair_cmp p q
derived_so p q = refl

-- the pair that comes before is the lesser one
pub lesser_before : (p q : Pair) → is_lt (pair_cmp p q) ≡ comes_before p q
lesser_before p q = grind (arith, nat_tests)

-- pairs that compare equal are the same
pub equal_same : (p q : Pair) → pair_cmp p q ≡ Equal → p ≡ q
equal_same p q e = comes_total p q (sym (lesser_before p q) ∙ ap is_lt e) (sym (lesser_before q p) ∙ ap is_lt (tied_back pair_total p q e))
