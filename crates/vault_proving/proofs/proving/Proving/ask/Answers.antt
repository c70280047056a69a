-- One request is out then, for the credential that is looked up.
use Rattle.std.proofs.Common.{◌≡◌, ◌∙◌, ◌<◌, [], ap, subst, sym}
use Rattle.vault_proving.specs.Lookups.{AreOutFor, Inquiry}
use Rattle.vault_proving.proofs.Alone.{put_one}
use Rattle.vault_proving.proofs.proving.Proving.ask.Goals as goal

pub invariant_of-self-2 : goal.invariant_of-self-2
invariant_of-self-2 g c =
    let asked = ap (λ (i : Inquiry _). i.asked) c.self.view_is ∙ c.requires.none in
    let none : g.L.Lanes.out c.self.inside.lanes ≡ [] = subst (λ a. AreOutFor a (g.L.Lanes.out c.self.inside.lanes)) asked c.self.invariant.out_for in record {
      wide = subst (λ n. 0 < n) (sym c.in_ok-send.ensures.width) c.self.invariant.wide;
      out_for = (c.requires.entry, (_, put_one _ _ _ c.in_ok-send.ensures.out.sent.put none));
    }
