use Rattle.fleet_search.proofs.Words.{◌≡◌, ◌<◌, ◌++◌, ◌∷◌, [], length, take, get_or, append_assoc, sym, ap, ◌∙◌, subst, arith, inl, inr, cases_eq, take_more, get_or_default, Fits}
use Rattle.fleet_search.proofs.Occupants.{no_from_false}
use Rattle.fleet_search.proofs.orders.keep_paths.Goals as goal

pub loop-kept-preserved : goal.loop-kept-preserved
loop-kept-preserved c =
    let old = c.args.reserved.now in
    let paths = c.args.paths.now in
    let kept = c.loop-kept.kept in
    let i = c.loop-kept.invariant in
    let l : kept < length paths = omega arith in
    let path = c.index-paths-kept.result in
    let is : path ≡ get_or paths kept [] = c.index-paths-kept.is ∙ get_or_default paths kept path [] l in
    let is' : c.index-paths-kept.result ≡ get_or paths kept [] = c.index-paths-kept.is ∙ get_or_default paths kept c.index-paths-kept.result [] l in
    let fits : Fits c.loop-kept.reserved c.index-paths-kept.result = c.fits.ensures.0 c.if-not-fits.false in
    record {
      added = c.in_ok-reserve.ensures.ok ∙ ap (λ z. z ++ path ∷ []) i.added ∙ append_assoc old (take kept paths) (path ∷ [])
          ∙ ap (λ z. old ++ (take kept paths ++ z ∷ [])) is ∙ ap (λ z. old ++ z) (sym (take_more paths kept [] l));
      fit = λ k h. elim (cases_eq k kept) [
        | inl e ↦ subst (λ z. Fits (old ++ take z paths) (get_or paths z [])) (sym e) (subst (λ z. Fits z (get_or paths kept [])) i.added (subst (Fits c.loop-kept.reserved) is' fits))
        | inr ne ↦ i.fit k (omega arith)
      ];
    }

pub returns-then-not-fits : goal.returns-then-not-fits
returns-then-not-fits c =
    let paths = c.args.paths.now in
    let kept = c.loop-kept.kept in
    let i = c.loop-kept.invariant in
    let l : kept < length paths = omega arith in
    let is : c.index-paths-kept.result ≡ get_or paths kept [] = c.index-paths-kept.is ∙ get_or_default paths kept c.index-paths-kept.result [] l in
    record {
      bound = omega arith;
      added = i.added;
      fit = i.fit;
      misfit = λ h fits. no_from_false c.fits.result c.if-not-fits.true c.fits.ensures (subst (Fits c.loop-kept.reserved) (sym is) (subst (λ z. Fits z (get_or paths kept [])) (sym i.added) fits));
    }
