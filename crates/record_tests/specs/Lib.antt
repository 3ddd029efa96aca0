pub mod HitsLatest
