-- What a call is refused with by what is stored and ready is what the definition refuses it with.
use Rattle.node_core.proofs.Names.{Areas, Cancel, DeleteTransfer, Found, IsReady, IsSound, List, Option}
use Rattle.node_core.proofs.Names.{ProcessSwPackage, Readied, Refusal, State, TransferData, TransferExit, ap}
use Rattle.node_core.proofs.Names.{bad_refusal, cancel_refusals, changes_in, contents_of, data_refusals}
use Rattle.node_core.proofs.Names.{delete_refusals, exit_refusals, first_refusal, found_of, length, mark_of, node_of}
use Rattle.node_core.proofs.Names.{of_client, option_map, option_or, over, package_refusals, parts_refusal}
use Rattle.node_core.proofs.Names.{refusal_by, session_refusals, stored_header, stored_ids, stored_of, sym, synced}
use Rattle.node_core.proofs.Names.{verdict_in, verdict_kept, ℕ, [], ◌∙◌, ◌≡◌}
use Rattle.node_core.proofs.Accepted.{block-refused, delete-refused, exit-refused}
use Rattle.node_core.proofs.Begun.{process-refused}
use Rattle.node_core.proofs.Phased.{cancel-refused}
use Rattle.node_core.proofs.Sound.{synced-means}
use Rattle.node_core.proofs.Stored.{found-header}

-- what Sync shows
pub synced-by : {v w : Readied} → v ≡ w → (client : ℕ) (areas : Areas) → record {
  session = option_map (mark_of v.state.status) v.state.session;
  ended = of_client v.state.ended client;
  transfers = stored_ids v.state.transfers client;
} ≡ synced (node_of (over areas w)) client
synced-by {w = w} e client areas =
    ap (λ (r : Readied). record {
      session = option_map (mark_of r.state.status) r.state.session;
      ended = of_client r.state.ended client;
      transfers = stored_ids r.state.transfers client;
    }) e ∙ synced-means (over areas w) client

module _ {v w : Readied} (e : v ≡ w) (client : ℕ) (areas : Areas) where
  pub block-by : (id counter : ℕ) (block : List ℕ) (o : Option Refusal)
      → o ≡ first_refusal (data_refusals (stored_header v.state.transfers client id) counter (length block))
      → o ≡ refusal_by (over areas w) client (TransferData id counter block)
  block-by id counter block o is =
      is ∙ ap (λ (r : Readied). first_refusal
      (data_refusals (stored_header r.state.transfers client id) counter (length block))) e
      ∙ sym (block-refused (over areas w) client id counter block)

  pub delete-by : (id : ℕ) (o : Option Refusal)
      → o ≡ first_refusal (delete_refusals (stored_header v.state.transfers client id))
      → o ≡ refusal_by (over areas w) client (DeleteTransfer id)
  delete-by id o is =
      is ∙ ap (λ (r : Readied). first_refusal (delete_refusals (stored_header r.state.transfers client id))) e
      ∙ sym (delete-refused (over areas w) client id)

  -- two refusals, the second of which counts where the first is none
  module _ (o q : Option Refusal) where
    pub exit-by : (id : ℕ) → o ≡ first_refusal (exit_refusals (stored_header v.state.transfers client id))
        → q ≡ bad_refusal (verdict_in (verdict_kept v.prepared)) → IsReady (over areas w) client (TransferExit id)
        → option_or o q ≡ refusal_by (over areas w) client (TransferExit id)
    exit-by id rows bad ready =
        (λ i. option_or (rows i) (bad i))
        ∙ ap (λ (r : Readied). option_or (first_refusal (exit_refusals (stored_header r.state.transfers client id)))
        (bad_refusal (verdict_in (verdict_kept r.prepared)))) e
        ∙ sym (exit-refused (over areas w) client id ready)

    pub process-by : (id tag : ℕ) → o ≡ first_refusal (session_refusals v.state client (ProcessSwPackage id tag))
        → q ≡ option_or
        (first_refusal (package_refusals v.state client tag (stored_header v.state.transfers client id)))
        (parts_refusal v.state.running (changes_in v.state) []
        (contents_of (stored_of v.state.transfers client id)))
        → IsSound (over areas w) → option_or o q ≡ refusal_by (over areas w) client (ProcessSwPackage id tag)
    process-by id tag session rows sound =
        (λ i. option_or (session i) (rows i))
        ∙ ap (λ (r : Readied). option_or (first_refusal (session_refusals r.state client (ProcessSwPackage id tag)))
        (option_or (first_refusal (package_refusals r.state client tag (stored_header r.state.transfers client id)))
        (parts_refusal r.state.running (changes_in r.state) []
        (contents_of (stored_of r.state.transfers client id))))) e
        ∙ sym (process-refused (over areas w) sound client id tag)

    pub cancel-by : (id : ℕ) → o ≡ first_refusal (session_refusals v.state client (Cancel id))
        → q ≡ first_refusal (cancel_refusals (stored_header v.state.transfers client id))
        → option_or o q ≡ refusal_by (over areas w) client (Cancel id)
    cancel-by id session rows =
        (λ i. option_or (session i) (rows i))
        ∙ ap (λ (r : Readied). option_or (first_refusal (session_refusals r.state client (Cancel id)))
        (first_refusal (cancel_refusals (stored_header r.state.transfers client id)))) e
        ∙ sym (cancel-refused (over areas w) client id)

-- a package is refused by the header that is found
pub package-by : {s t : State} → s ≡ t → (client id tag : ℕ) (found : Option Found) (o q : Option Refusal)
    → found ≡ found_of s.transfers client id
    → o ≡ first_refusal (package_refusals t client tag (option_map (λ f. f.header) found))
    → option_or o q ≡ option_or (first_refusal
    (package_refusals t client tag (stored_header t.transfers client id))) q
package-by {t = t} e client id tag found o q there is =
    ap (λ p. option_or p q) (is ∙ ap (λ h. first_refusal (package_refusals t client tag h))
    (sym (found-header t.transfers client id
    ∙ ap (option_map (λ (f : Found). f.header)) (sym (there ∙ ap (λ (s : State). found_of s.transfers client id) e)))))
