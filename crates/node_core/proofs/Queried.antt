-- A query is answered over the stored lists as of the node that they stand for.
use Rattle.node_core.proofs.Names.{Answer, ChangeInfo, ClusterInfo, EachIsUnfinished, Extent, GetSwClusterChangeInfo, GetSwClusterInfo}
use Rattle.node_core.proofs.Names.{GetSwPackages, GetSwProcessProgress, Holding, IsSound, List, Option, PackageInfo, Query, Refusal}
use Rattle.node_core.proofs.Names.{Result, SessionOf, StoredTransfer, answer, ap, ap₂, changes-answered, changes_planned}
use Rattle.node_core.proofs.Names.{clusters-answered, each-unfinished, filter, find, is_of, map, node_of, package_reading}
use Rattle.node_core.proofs.Names.{packages-answered, progress-answered, progress_answer, progress_at, shown_change, shown_cluster}
use Rattle.node_core.proofs.Names.{shown_transfer, subst, sym, ℕ, ◌==◌, ◌∙◌, ◌≡◌}
use Rattle.pm_types.specs.declared.queries.Answer.TheVariants.{Clusters, Changes, Packages}

-- an answer of an equal node to an equal query
pub answered : {v w : Holding} → v ≡ w → (client : ℕ) {p q : Query} → q ≡ p → {a : Answer}
    → a ≡ answer (node_of v) client p → a ≡ answer (node_of w) client q
answered {w = w} same client {p} asked is = is ∙ ap (λ (x : Holding). answer (node_of x) client p) same
    ∙ ap (answer (node_of w) client) (sym asked)

module _ {v w : Holding} (same : v ≡ w) (client : ℕ) {q : Query} where
  -- the running clusters
  pub clusters-shown : q ≡ GetSwClusterInfo → (infos : List ClusterInfo) → infos ≡ map shown_cluster v.state.running
      → Clusters infos ≡ answer (node_of w) client q
  clusters-shown asked infos is =
      answered same client asked (ap Clusters is ∙ clusters-answered package_reading v.areas v.state client)

  -- the planned changes
  pub changes-shown : q ≡ GetSwClusterChangeInfo → (infos : List ChangeInfo) (session : Option (SessionOf Extent))
      → infos ≡ map shown_change (changes_planned session) → session ≡ v.state.session
      → Changes infos ≡ answer (node_of w) client q
  changes-shown asked infos session is x =
      answered same client asked
      (ap Changes (is ∙ ap (λ (o : Option (SessionOf Extent)). map shown_change (changes_planned o)) x)
      ∙ changes-answered package_reading v.areas v.state client)

  -- the client's transfers
  pub packages-shown : q ≡ GetSwPackages → (infos : List PackageInfo) (ts : List StoredTransfer)
      → infos ≡ map (λ t. shown_transfer t.header) (filter (λ t. t.header.client == client) ts)
      → ts ≡ v.state.transfers → Packages infos ≡ answer (node_of w) client q
  packages-shown asked infos ts is e =
      answered same client asked
      (ap Packages (is
      ∙ ap (λ (l : List StoredTransfer). map (λ t. shown_transfer t.header)
      (filter (λ t. t.header.client == client) l)) e) ∙ packages-answered package_reading v.areas v.state client)

module _ {v w : Holding} (same : v ≡ w) (sound : IsSound w) (session : Option (SessionOf Extent))
    (transfers : List StoredTransfer) (x : session ≡ v.state.session) (ts : transfers ≡ v.state.transfers) where
  own : IsSound v
  own = subst IsSound (sym same) sound

  -- more units are wanted than are done
  pub unfinished : EachIsUnfinished session transfers
  unfinished =
      subst (λ l. EachIsUnfinished session l) (sym ts)
      (subst (λ o. EachIsUnfinished o v.state.transfers) (sym x)
      (each-unfinished package_reading v.areas v.state own.fit.consistent own.order.transfers))

  -- the progress is that of the node
  pub progressed : (client id : ℕ) (r : Result ℕ Refusal)
      → r ≡ progress_at session (find (λ t. is_of client id t.header) transfers)
      → progress_answer r ≡ answer (node_of w) client (GetSwProcessProgress id)
  progressed client id r is =
      ap progress_answer (is
      ∙ ap₂ (λ o (l : List StoredTransfer). progress_at o (find (λ t. is_of client id t.header) l)) x ts)
      ∙ progress-answered package_reading v.areas v.state client own.order.transfers id
      ∙ ap (λ (z : Holding). answer (node_of z) client (GetSwProcessProgress id)) same
