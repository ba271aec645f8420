-- How the checks of a copy go on from one to the next.
use Rattle.std.proofs.Common.{◌≡◌, ℕ, Bool, true, ◌&&◌, List, [], ◌∷◌, ◌++◌, is_some, unwrap_or, sym, ap, ◌∙◌, ap₂}
use Rattle.std.proofs.lemmas.Bool.{cond-true, and_parts, and_from}
use Rattle.model.specs.declared.refusal.Refusal.TheVariants.{NotCopyable, NoLink, NotPassed}
use Rattle.model.specs.declared.rules.Sight.{Sight}
use Rattle.model.specs.Refusals.{Answer, granted, refused, bare}
use Rattle.model.specs.Scheme.{Scheme}
use Rattle.model.specs.State.{State, kind, standing, holds}
use Rattle.model.specs.Calls.{Check, check, passed, sight, first_link, passing_link}
use Rattle.model.proofs.Checks.{decided, passed_all, decide_passed, bare_decide}
use Rattle.register.specs.Passing.{copy_party_checks, lowest_answer}
use Rattle.register.proofs.Fronts.{next_passed}

-- the lowest link by what was seen and the kinds that were found is the state's
pub lowest_in : (S : Scheme) (st : State) (a b y x : ℕ) (c : Bool) (v : Sight) (ka kb ky : ℕ) → v ≡ sight S st a b → ka ≡ kind st a → kb ≡ kind st b → ky ≡ kind st y
    → lowest_answer S v ka kb ky x c ≡ lowest_answer S (sight S st a b) (kind st a) (kind st b) (kind st y) x c
lowest_in S st a b y x c v ka kb ky e p q r =
    ap (λ (u : Sight). lowest_answer S u ka kb ky x c) e ∙ ap₂ (λ (i j : ℕ). lowest_answer S (sight S st a b) i j ky x c) p q
    ∙ ap (λ (k : ℕ). lowest_answer S (sight S st a b) (kind st a) (kind st b) k x c) r

module _ (S : Scheme) (st : State) (a b y x : ℕ) (c : Bool) where
  -- the checks on links
  abbrev pub links : List Check
  links = check NoLink (is_some (first_link S st a b)) ∷ check NotPassed (is_some (passing_link S st a b y x c)) ∷ []

  -- all checks but the last
  abbrev pub copy_front : List Check
  copy_front = copy_party_checks S st a b y x ++ check NotCopyable (holds st a y x true) ∷ links

  abbrev lowest : Answer ℕ
  lowest = lowest_answer S (sight S st a b) (kind st a) (kind st b) (kind st y) x c

  module _ (p : granted tt ≡ passed (copy_party_checks S st a b y x)) where
    -- taker and target stand
    pub taker_stands : (standing st b && standing st y) ≡ true
    taker_stands =
        let all = passed_all (copy_party_checks S st a b y x) (sym p) in
        let aby = and_parts (standing st a && standing st b) (standing st y) all.0 in
        and_from (standing st b) (standing st y) (and_parts (standing st a) (standing st b) aby.0).1 aby.1

    module _ (f : holds st a y x true ≡ true) where
      onwards : passed copy_front ≡ passed links
      onwards =
          decide_passed (copy_party_checks S st a b y x ++ check NotCopyable (holds st a y x true) ∷ []) links tt
          (sym (next_passed (copy_party_checks S st a b y x) (check NotCopyable (holds st a y x true)) p (sym (cond-true (holds st a y x true) (granted tt) (refused 4) f))))

      -- no link, or none that passes
      pub links_refused : (n : ℕ) → refused n ≡ lowest → refused n ≡ passed copy_front
      links_refused n e = ap bare e ∙ bare_decide links (unwrap_or (passing_link S st a b y x c) 0) ∙ sym onwards

      -- the lowest link that passes is answered
      pub links_passed : (i : ℕ) → granted i ≡ lowest → granted tt ≡ passed copy_front
      links_passed i e = ap bare e ∙ bare_decide links (unwrap_or (passing_link S st a b y x c) 0) ∙ sym onwards

  pub link_is : (i : ℕ) → granted i ≡ lowest → i ≡ unwrap_or (passing_link S st a b y x c) 0
  link_is i e = sym (decided links (unwrap_or (passing_link S st a b y x c) 0) i (sym e)).1
