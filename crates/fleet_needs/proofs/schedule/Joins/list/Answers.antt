use Rattle.fleet_needs.proofs.Words.{◌≡◌, ◌+◌, ◌∙◌, ◌∷◌, ◌++◌, [], ℕ, List, map, set, take, take_all, ap, sym, arith, refl, length, slice_get_within, get_or_from_slice_get, ActionId, Await, Need, awaits_of, action_before, need_for, need_of_key, needs_in, needs_of, row_of, length-map, action_of_key, value_of_key}
use Rattle.std.proofs.lemmas.Result.{err_from_is_err_and}
use Rattle.std.proofs.lemmas.List.{append_assoc, map-append, map_more}
use Rattle.fleet_needs.proofs.JoinLaws.{listed_more}
use Rattle.fleet_needs.proofs.schedule.Joins.list.Goals as goal

pub index_mut-requires : goal.index_mut-requires
index_mut-requires g c = omega (arith, c.requires.within, length-map c.args.self.now.keys.items action_of_key)

pub loop-k-preserved : goal.loop-k-preserved
loop-k-preserved g c =
    let p = g.P.ProgramView.program c.args.program.now in
    let action = c.named-action.result in
    let ws = awaits_of p action.agent action.number in
    let need = need_for p c.args.standing.now in
    let k = c.loop-k.k in
    let named = c.awaited_at-awaited.result in
    let w : Await = record { agent = named.agent; count = named.number } in
    let at = c.awaited_at-awaited.ensures.awaited in
    let first = needs_in c.args.self.now.awaits in
    let more = map need (take k ws) in
    let key = c.key_of-in-loop-k.result in
    let is = ap (λ (a : ActionId). record { row = value_of_key key; wait = record { agent = a.agent; count = a.number } }) c.key_of-in-loop-k.ensures.action ∙ ap (λ (r : ℕ). record { row = r; wait = w }) (c.key_of-in-loop-k.ensures.value ∙ c.row_of-in-loop-k.ensures) ∙ ap need (sym (get_or_from_slice_get ws k w w at)) in
    ap (map need_of_key) c.in_ok-push.ensures.items ∙ map-append need_of_key c.loop-k.awaits.items (key ∷ []) ∙ ap (λ (xs : List Need). xs ++ need_of_key key ∷ []) c.loop-k.invariant ∙ append_assoc first more (need_of_key key ∷ [])
    ∙ ap (λ (x : Need). first ++ (more ++ x ∷ [])) is ∙ ap (λ (xs : List Need). first ++ xs) (sym (map_more need ws k w (slice_get_within ws k w at)))

pub returns : goal.returns
returns g c =
    let p = g.P.ProgramView.program c.args.program.now in
    let m = c.args.standing.now in
    let x = c.args.self.now in
    let action = c.named-action.result in
    let ws = awaits_of p action.agent action.number in
    let named = c.named-action.ensures.at in
    let all = c.loop-k.invariant ∙ ap (λ (ys : List Await). needs_in x.awaits ++ map (need_for p m) ys) (take_all c.loop-k.k ws (omega (arith, c.loop-k-test.false, c.loop-k.auto.k-end, c.await_count-k-end.ensures))) in
    let end : c.len-end.result ≡ length c.loop-k.awaits.items = omega (arith, c.len-end.ensures) in
    listed_more p m x _ c.args.n c.key_of.result c.requires.within refl (c.key_of.ensures.action ∙ named) (c.key_of.ensures.value ∙ c.row_of.ensures ∙ ap (λ (a : ActionId). row_of p m (action_before a)) named)
    (all ∙ ap (λ (a : ActionId). needs_in x.awaits ++ needs_of p m a) named) (ap (λ (k : ℕ). set x.ends.items (c.args.n + 1) k) end) c.requires.listed

pub key_of-requires-in-loop-k-clause-number : goal.key_of-requires-in-loop-k-clause-number
key_of-requires-in-loop-k-clause-number g c = omega (arith, c.awaited_at-awaited.ensures.action.last, c.agents.ensures.well_formed.moves_each c.awaited_at-awaited.result.agent)

pub returns-in_err-push : goal.returns-in_err-push
returns-in_err-push g c = rw (err_from_is_err_and c.from_residual.result c.from_residual.ensures.1).1 tt
