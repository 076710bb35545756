-- What a search has come to.
use Rattle.std.specs.Prelude.{◌≡◌, ◌≢◌, ℕ, ◌<◌, List, [], ◌∷◌, ◌++◌, length, Contains}
use Rattle.fleet_search.specs.declared.frontier.Node.{Node}
use Rattle.fleet_search.specs.Labels.{LabelState, earliest_in, IsLabelSet}
use Rattle.fleet_search.specs.Rows.{bucket_of, IsPut}

-- the nodes in the order in which they were made, the earliest times of the search by cell and safe interval, and the
-- places of the nodes that are open, bucket by bucket
pub record Exploration : Type 0 where
  pub nodes : List Node
  pub labels : LabelState
  pub open_list : List (List ℕ)

-- the open list holds places of nodes
abbrev pub AreNodePlaces : List Node → List (List ℕ) → Type 0
AreNodePlaces nodes open_list = (k i : ℕ) → Contains (bucket_of open_list k) i → i < length nodes

-- the node is added at the end, its safe interval is labelled with its time, and it is put on the bucket
pub record IsAdded (old new : Exploration) (node : Node) (cell interval bucket : ℕ) : Type 0 where
  pub places : AreNodePlaces old.nodes old.open_list
  pub nodes : new.nodes ≡ old.nodes ++ node ∷ []
  pub labels : IsLabelSet (earliest_in old.labels) (earliest_in new.labels) cell interval node.state.time
  pub open_list : IsPut old.open_list new.open_list bucket (length old.nodes)

-- the node at this place, which was put on the bucket last, is taken off it
pub record IsNodeTaken (old new : Exploration) (bucket place : ℕ) : Type 0 where
  pub within : place < length old.nodes
  pub last : bucket_of old.open_list bucket ≡ bucket_of new.open_list bucket ++ place ∷ []
  pub others : (k : ℕ) → k ≢ bucket → bucket_of new.open_list k ≡ bucket_of old.open_list k
  pub rest : new ≡ record old { open_list = new.open_list }

-- the bucket is empty, and all is as before
pub record IsBucketDone (old new : Exploration) (bucket : ℕ) : Type 0 where
  pub empty : bucket_of old.open_list bucket ≡ []
  pub same : (k : ℕ) → bucket_of new.open_list k ≡ bucket_of old.open_list k
  pub rest : new ≡ record old { open_list = new.open_list }
